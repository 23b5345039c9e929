use denote.Param.Send.{sendable}
use Rattle.std.proofs.Crossing.{crosses}
use Rattle.sy_inputs.proofs.Sent.{shared_send}
use Rattle.sy_inputs.proofs.accepting.start_reading.Goals as goal

pub spawn-requires-send-F : goal.spawn-requires-send-F
spawn-requires-send-F g c κs within = search (shared_send, sendable, crosses) depth 20
