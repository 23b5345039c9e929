use denote.Param.Send.{sendable}
use Rattle.std.proofs.Crossing.{crosses}
use Rattle.sy_runtime.proofs.Sent.{common_send, common_sync}
use Rattle.sy_runtime.proofs.starting.start_worker.Goals as goal

pub spawn-requires-send-F : goal.spawn-requires-send-F
spawn-requires-send-F g c κs within = search (common_send, common_sync, sendable, crosses) depth 20
