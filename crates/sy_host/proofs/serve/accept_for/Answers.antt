use denote.Param.Send.{sendable}
use Rattle.std.proofs.Crossing.{crosses}
use Rattle.sy_host.proofs.Sent.{open_send, open_sync}
use Rattle.sy_host.proofs.serve.accept_for.Goals as goal

pub accept_to_end-requires-send-C : goal.accept_to_end-requires-send-C
accept_to_end-requires-send-C g c κs within = search (open_send, sendable, crosses) depth 20

pub accept_to_end-requires-sync-C : goal.accept_to_end-requires-sync-C
accept_to_end-requires-sync-C g c κs within = search (open_sync, sendable, crosses) depth 20
