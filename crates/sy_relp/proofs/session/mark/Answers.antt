use Rattle.std.proofs.Common.{◌≡◌, ◌<◌, length, get_or, ◌∙◌, sym, arith, ap}
use Rattle.sy_relp.specs.internal.Marks.{undone}
use Rattle.sy_relp.proofs.SessionSteps.{marks_none, marks_one, one_more_none}
use Rattle.sy_relp.proofs.session.mark.Goals as goal

pub returns-clause-no : goal.returns-clause-no
returns-clause-no c = λ f. (rw (sym c.loop-i.invariant.same) (marks_none c.loop-i.waiting.items c.loop-i.i c.args.txnr (omega (arith, ap length c.loop-i.invariant.same)) c.loop-i.invariant.none), c.loop-i.invariant.same)

pub returns-then-is_undone-clause-yes : goal.returns-then-is_undone-clause-yes
returns-then-is_undone-clause-yes c = λ t.
    let within : c.loop-i.i < length c.loop-i.waiting.items = omega (arith, ap length c.loop-i.invariant.same, c.loop-i-test.true) in
    let is : get_or c.loop-i.waiting.items c.loop-i.i c.index.result.now ≡ undone c.args.txnr = sym c.index.ensures ∙ c.is_undone.ensures.yes c.if-is_undone.true in
    rw (sym c.loop-i.invariant.same) (marks_one c.loop-i.waiting.items c.loop-i.i c.args.txnr _ within is)

pub loop-i-preserved : goal.loop-i-preserved
loop-i-preserved c =
    record { same = c.loop-i.invariant.same; none = one_more_none c.loop-i.waiting.items c.loop-i.i c.args.txnr c.index.result.now c.loop-i.invariant.none (λ e. c.is_undone.ensures.no c.if-is_undone.false (c.index.ensures ∙ e)) }
