use Rattle.std.proofs.Common.{[], ◌∷◌, arith}
use Rattle.sy_relp.proofs.Heard.{so_far_more, up_to}
use Rattle.sy_relp.proofs.hear.hear.Goals as goal

pub returns-then-not-next_frame : goal.returns-then-not-next_frame
returns-then-not-next_frame g c = up_to _ _ _ _ _ _ c.args.first c.args.wanted c.loop-count.count [] c.loop-count.invariant.so_far (c.next_frame.ensures.no c.if-not-next_frame.true) c.loop-count-test.true

pub returns-then-not-is_answer : goal.returns-then-not-is_answer
returns-then-not-is_answer g c = up_to _ _ _ _ _ _ c.args.first c.args.wanted c.loop-count.count (c.next_frame.new.answer ∷ []) c.loop-count.invariant.so_far (c.next_frame.ensures.yes c.if-not-next_frame.false) c.loop-count-test.true

pub loop-count-preserved : goal.loop-count-preserved
loop-count-preserved g c = record {
  within = omega arith;
  so_far = so_far_more _ _ _ _ _ _ c.args.first c.loop-count.count c.next_frame.new.answer c.loop-count.invariant.so_far (c.next_frame.ensures.yes c.if-not-next_frame.false) (c.is_answer.ensures c.if-not-is_answer.false);
}
