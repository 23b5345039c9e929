-- What the threads of a relay that is served share may cross threads.
use denote.RattleType.{RattleType}
use denote.Param.Object.{Ghosts, table_of}
use denote.Param.Sent.{Sends}
use denote.Param.Send.{IsSend, IsSync, sendable}
use Rattle.std.proofs.Crossing.{crosses}
use Rattle.sy_runtime.specs.contracts.relay.Relay as Relay
use Rattle.sy_runtime.proofs.Sent.{relay_send, relay_sync}
use Rattle.sy_host.specs.contracts.reporting.printing_thread.Printed as Printed
use Rattle.sy_host.specs.contracts.reporting.Reporter as Reporter
use Rattle.sy_host.specs.contracts.watching.writing.Writer as Writer
use Rattle.sy_log.specs.contracts.log.LogGate as Gate
use Rattle.sy_log.proofs.Sent.{gate_send, gate_sync}
use Rattle.sy_watched.proofs.Sent.{file_send}
use Rattle.sy_inputs.proofs.Sent.{serving_send, serving_sync}

module _ (E : RattleType) where
  pub reporter_send : IsSend E → IsSend (Reporter.the_row E)
  reporter_send a = search (serving_send, serving_sync, sendable, crosses) depth 30 fits 5000

module _ (E : RattleType) where
  pub printed_send : IsSend E → IsSend (Printed.the_row E)
  printed_send a = search (serving_send, serving_sync, sendable, crosses) depth 30 fits 5000

module _ (C E : RattleType) where
  pub writer_send : IsSend C → IsSync C → IsSend E → IsSend (Writer.the_row C E)
  writer_send a b d = search (file_send, serving_send, serving_sync, sendable, crosses) depth 30 fits 5000

module _ (T : RattleType) (g : Ghosts T.Denot) (s : Sends (table_of T.Denot g)) (t : IsSend T) where
  pub open_send : IsSend (Relay.the_row Gate.the_row T g)
  open_send = relay_send T g s t Gate.the_row gate_send gate_sync

  pub open_sync : IsSync (Relay.the_row Gate.the_row T g)
  open_sync = relay_sync T g s t Gate.the_row gate_send gate_sync
