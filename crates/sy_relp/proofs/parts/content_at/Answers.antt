use Rattle.std.proofs.Common.{arith}
use Rattle.sy_relp.proofs.Stops.{all_but_the_end, content_short}
use Rattle.sy_relp.proofs.parts.content_at.Goals as goal

pub returns-then-bytes-len-clause-err : goal.returns-then-bytes-len-clause-err
returns-then-bytes-len-clause-err c = content_short c.args.bytes.now c.args.len c.if-bytes-len.true

pub returns-in-empty-clause-err : goal.returns-in-empty-clause-err
returns-in-empty-clause-err c = all_but_the_end c.args.bytes.now c.args.len (omega (arith, c.if-len-eq0.false)) (omega (arith, c.if-bytes-len.false)) (omega (arith, c.in-empty.len_below, c.split_at.ensures.by_index))
