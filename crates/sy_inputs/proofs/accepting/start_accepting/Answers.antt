use denote.Param.Send.{sendable}
use Rattle.std.proofs.Crossing.{crosses}
use Rattle.sy_inputs.proofs.Sent.{acceptor_send}
use Rattle.sy_inputs.proofs.accepting.start_accepting.Goals as goal

pub spawn-requires-send-F : goal.spawn-requires-send-F
spawn-requires-send-F g c κs within = search (acceptor_send, sendable, crosses) depth 20
