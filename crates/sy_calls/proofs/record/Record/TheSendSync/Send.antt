use denote.Param.Send.{IsSend}
use Rattle.sy_calls.specs.contracts.record.Record.{the_row}
use Rattle.sy_calls.proofs.Sent as sent

pub send : IsSend the_row
send = sent.record_send
