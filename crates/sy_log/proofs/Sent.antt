-- What is told of a relay, and what prints it, may cross threads.
use denote.RattleType.{RattleType}
use denote.Param.Send.{IsSend, IsSync, sendable}
use Rattle.std.proofs.Crossing.{crosses}
use Rattle.sy_log.specs.contracts.log.Log as Log
use Rattle.sy_log.specs.contracts.log.LogGate as Gate
use Rattle.sy_log.specs.contracts.peers.Ended as Ended
use Rattle.sy_log.specs.contracts.peers.FirstUnread as FirstUnread
use Rattle.sy_log.specs.contracts.peers.PeerEnd as PeerEnd
use Rattle.sy_log.specs.contracts.peers.Sending as Sending
use Rattle.sy_log.specs.contracts.printer.Printer as Printer
use Rattle.sy_log.specs.contracts.printing.Printing as Printing
use Rattle.sy_log.specs.contracts.unreported.Unreported as Unreported

pub printing_send : IsSend Printing.the_row
printing_send = search (sendable, crosses) depth 40 fits 5000

pub printing_sync : IsSync Printing.the_row
printing_sync = search (sendable, crosses) depth 40 fits 5000

pub first_send : IsSend FirstUnread.the_row
first_send = search (sendable, crosses) depth 40 fits 5000

peer_send : IsSend PeerEnd.the_row
peer_send = search (first_send, sendable, crosses) depth 40 fits 5000

sending_send : IsSend Sending.the_row
sending_send = search (first_send, sendable, crosses) depth 40 fits 5000

unreported_send : IsSend Unreported.the_row
unreported_send = search (first_send, sendable, crosses) depth 40 fits 5000

ended_send : IsSend Ended.the_row
ended_send = search (peer_send, sending_send, unreported_send, sendable, crosses) depth 40 fits 5000

pub log_send : IsSend Log.the_row
log_send = search (ended_send, sendable, crosses) depth 40 fits 5000

pub log_sync : IsSync Log.the_row
log_sync = search (ended_send, sendable, crosses) depth 40 fits 5000

pub gate_send : IsSend Gate.the_row
gate_send = search (log_send, log_sync, sendable, crosses) depth 20

pub gate_sync : IsSync Gate.the_row
gate_sync = search (log_send, log_sync, sendable, crosses) depth 20

module _ (E : RattleType) where
  pub printer_send : IsSend E → IsSend (Printer.the_row E)
  printer_send a = search (sendable, crosses) depth 40 fits 5000
