use Rattle.std.proofs.Common.{◌∙◌, arith}
use Rattle.sy_escapes.proofs.Lines.{keeps_more}
use Rattle.sy_escapes.proofs.batch.write_from.Goals as goal

pub loop-at-preserved : goal.loop-at-preserved
loop-at-preserved g c = record {
  more = omega (arith, c.loop-at.invariant.more);
  bound = omega (arith, c.in-Ok.ensures.bound, c.split_at.ensures.back_len, c.loop-at.invariant.bound);
  wrote = keeps_more _ _ _ _ _ _ _ c.loop-at.invariant.wrote c.split_at.ensures.back c.in-Ok.ensures.bytes;
  faults = c.in-Ok.ensures.ok ∙ c.loop-at.invariant.faults;
}
