use denote.Param.Send.{sendable}
use Rattle.std.proofs.Crossing.{crosses}
use Rattle.sy_runtime.proofs.Sent.{relay_send}
use Rattle.sy_runtime.proofs.laws.relay_moves.Goals as goal

pub moves-requires-send-T : goal.moves-requires-send-T
moves-requires-send-T g c κs within = search (relay_send, sendable, crosses) depth 20
