use denote.Param.Send.{sendable}
use Rattle.std.proofs.Crossing.{crosses}
use Rattle.sy_host.proofs.Sent.{printed_send}
use Rattle.sy_host.proofs.reporting.printing_thread.start_printing.Goals as goal

pub spawn-requires-send-F : goal.spawn-requires-send-F
spawn-requires-send-F g c κs within = search (printed_send, sendable, crosses) depth 20
