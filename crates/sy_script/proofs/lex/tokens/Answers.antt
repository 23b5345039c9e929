use Rattle.std.proofs.Common.{◌≡◌, length, sym, ◌∙◌, arith}
use Rattle.sy_script.proofs.LexSteps.{goes_next, goes_wrong, ends}
use Rattle.sy_script.specs.internal.Lex as spec
use Rattle.sy_script.proofs.lex.tokens.Goals as goal

pub returns-in-Err : goal.returns-in-Err
returns-in-Err c = goes_wrong c.args.text.now c.loop-at.state c.loop-at.at c.loop-at.tokens.items _ _ _ (omega arith) c.next_step-step.ensures c.in-Err.is c.in_ok-keep.ensures ∙ c.loop-at.invariant

pub loop-at-preserved : goal.loop-at-preserved
loop-at-preserved c = goes_next c.args.text.now c.loop-at.state c.loop-at.at c.loop-at.tokens.items _ _ _ (omega arith) c.next_step-step.ensures c.in-Ok.is c.in_ok-keep.ensures ∙ c.loop-at.invariant

pub returns : goal.returns
returns c =
    let whole : spec.with_front c.loop-at.tokens.items (spec.end c.args.text.now c.loop-at.state (length c.args.text.now)) ≡ spec.tokens c.args.text.now =
    sym (ends c.args.text.now c.loop-at.state c.loop-at.at c.loop-at.tokens.items (omega arith) (omega arith)) ∙ c.loop-at.invariant in
    rw (← whole) c.end.ensures
