use Rattle.std.proofs.Common.{◌≡◌, ◌∙◌, None, Some, arith, sym}
use Rattle.sy_warnings.proofs.Arriving.{no_value, number_below}
use Rattle.sy_warnings.proofs.following.executed_at.Goals as goal

pub returns-then-number-ge64 : goal.returns-then-number-ge64
returns-then-number-ge64 c = λ is does.
    (let low = number_below c.args.site.now c.is_lawful.ensures c.args.at.relay c.args.at.list c.args.number is does.found in
    let high = c.if-number-ge64.true in
    absurd (omega (arith, low, high)))

pub if_executed-requires : goal.if_executed-requires
if_executed-requires c = record {
  there = c.requires.there;
  stands = sym c.occurrence.ensures ∙ c.in-Some.is;
  small = c.if-number-ge64.false;
}

pub returns-in-None : goal.returns-in-None
returns-in-None c = λ is does. absurd (no_value (sym c.in-None.is ∙ c.occurrence.ensures ∙ does.found))
