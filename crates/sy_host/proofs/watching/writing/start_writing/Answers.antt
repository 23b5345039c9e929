use denote.Param.Send.{sendable}
use Rattle.std.proofs.Crossing.{crosses}
use Rattle.sy_host.proofs.Sent.{writer_send}
use Rattle.sy_host.proofs.watching.writing.start_writing.Goals as goal

pub spawn-requires-send-F : goal.spawn-requires-send-F
spawn-requires-send-F g c κs within = search (writer_send, sendable, crosses) depth 20
