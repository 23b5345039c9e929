use denote.Param.Send.{sendable}
use Rattle.std.proofs.Crossing.{crosses}
use Rattle.sy_inputs.proofs.Sent.{starting_send}
use Rattle.sy_inputs.proofs.reading.start_reader.Goals as goal

pub spawn-requires-send-F : goal.spawn-requires-send-F
spawn-requires-send-F g c κs within = search (starting_send, sendable, crosses) depth 20
