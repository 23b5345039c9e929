use Rattle.std.proofs.Common.{◌∙◌, arith}
use Rattle.sy_report.proofs.Lines.{appends_more}
use Rattle.sy_report.proofs.writing.output.write_all.Goals as goal

pub loop-at-preserved : goal.loop-at-preserved
loop-at-preserved g c = record {
  within = omega (arith, c.in_ok-count.ensures.bound, c.split_at.ensures.back_len);
  wrote = appends_more _ _ _ _ _ _ _ c.loop-at.invariant.wrote c.split_at.ensures.back c.in_ok-count.ensures.bytes;
  same = c.in_ok-count.ensures.ok ∙ c.loop-at.invariant.same;
}
