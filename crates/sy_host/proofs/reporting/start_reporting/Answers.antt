use denote.Param.Send.{sendable}
use Rattle.std.proofs.Crossing.{crosses}
use Rattle.sy_host.proofs.Sent.{reporter_send}
use Rattle.sy_host.proofs.reporting.start_reporting.Goals as goal

pub spawn-requires-send-F : goal.spawn-requires-send-F
spawn-requires-send-F g c κs within = search (reporter_send, sendable, crosses) depth 20
