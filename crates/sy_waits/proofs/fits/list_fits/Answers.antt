use Rattle.std.proofs.Common.{◌≡◌, ◌∙◌, ap, arith, subst, sym}
use Rattle.std.specs.Int.{bit_at}
use Rattle.std.proofs.lemmas.Nat.Bits.{bit_at-zero}
use Rattle.sy_rules.specs.Whole.{body_at}
use Rattle.sy_rules.specs.lists.Sets.{Bits}
use Rattle.sy_rules.specs.lists.Work.{May}
use Rattle.sy_waits.proofs.fits.list_fits.Goals as goal

pub returns-then-set-eq0 : goal.returns-then-set-eq0
returns-then-set-eq0 c = λ yes marked number is does.
    (let bits = subst (λ p. Bits (May (body_at p c.args.list) c.args.class) c.flow_of-set.result.may) (c.deref.ensures ∙ c.plan.ensures) c.flow_of-set.ensures.may in
    let bit = (bits number).1 does.may in
    let none = bit_at-zero number in
    let zero = c.if-set-eq0.true in
    let at = ap (λ s. bit_at s number) zero in
    absurd (omega (arith, none, at, bit)))

pub returns-else-set-eq0 : goal.returns-else-set-eq0
returns-else-set-eq0 c = λ yes marked number is does.
    (let bits = subst (λ p. Bits (May (body_at p c.args.list) c.args.class) c.flow_of-set.result.may) (c.deref.ensures ∙ c.plan.ensures) c.flow_of-set.ensures.may in
    c.set_fits.ensures yes number is ((bits number).1 does.may) does.found)
