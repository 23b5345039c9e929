use denote.Param.Send.{sendable}
use Rattle.std.proofs.Crossing.{crosses}
use Rattle.sy_runtime.proofs.Sent.{relay_sync}
use Rattle.sy_runtime.proofs.laws.relay_is_shared.Goals as goal

pub is_shared-requires-sync-T : goal.is_shared-requires-sync-T
is_shared-requires-sync-T g c κs within = search (relay_sync, sendable, crosses) depth 20
