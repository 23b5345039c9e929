-- A file with what its calls answered may cross threads.
use denote.Param.Send.{IsSend, sendable}
use Rattle.std.proofs.Crossing.{crosses}
use Rattle.sy_calls.specs.contracts.append_file.AppendFile as AppendFile
use Rattle.sy_calls.specs.contracts.record.Record as Record

pub record_send : IsSend Record.the_row
record_send = record { owned = λ d vs. ((λ vss. (tt, ((λ uss. (tt, tt)), tt))), tt); leaving = λ k f vs. tt }

pub append_file_send : IsSend AppendFile.the_row
append_file_send = search (record_send, sendable, crosses) depth 40 fits 8000
