use Rattle.std.proofs.Common.{arith}
use Rattle.sy_relp.proofs.Stops.{bad_end, length_short, not_great_read, not_long}
use Rattle.sy_relp.proofs.parts.length_at.Goals as goal

pub returns-in-Err-Short-clause-err : goal.returns-in-Err-Short-clause-err
returns-in-Err-Short-clause-err c = length_short c.args.bytes.now (rw c.in-Err-Short.field-0-is at c.in-Err-Short.ensures.err)

pub returns-in-None-clause-err : goal.returns-in-None-clause-err
returns-in-None-clause-err c = (
  bad_end c.args.bytes.now _ _ c.in-Ok.ensures.ok.0 c.in-Ok.ensures.ok.1 c.in-Ok.ensures.ends (rw c.end_of_length.ensures at c.in-None.ensures.none),
  not_long c.args.bytes.now (not_great_read 65536 _ c.args.bytes.now _ c.in-Ok.ensures.ok.1 (omega arith) c.in-Ok.ensures.ends c.in-Ok.ensures.ok.0),
)
