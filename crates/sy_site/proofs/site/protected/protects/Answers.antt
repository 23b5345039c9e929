use Rattle.std.proofs.Common.{◌≡◌, sym, ap, get_or, refl, ◌∙◌, subst, arith, inl, inr}
use Rattle.std.proofs.lemmas.Bool.{cases_eq}
use Rattle.std.proofs.lemmas.List.{get_or_read_under}
use Rattle.std.proofs.lemmas.List.Folds.{list_any-from_Any}
use Rattle.sy_site.specs.Sites.{asks_for}
use Rattle.sy_site.specs.texts.HasFault.{IsEmpty}
use Rattle.sy_site.proofs.site.protected.protects.Goals as goal

pub returns-then-has_class-clause-yes : goal.returns-then-has_class-clause-yes
returns-then-has_class-clause-yes c = λ yes.
    let found = c.has_class.ensures.yes c.if-has_class.true in (
      found.0,
      list_any-from_Any (λ p. asks_for p found.0) c.args.protections.now
          (c.loop-protection.protection-index, c.protection-item.result, omega (arith, c.loop-protection-test.true), sym c.protection-item.is, found.1),
    )

pub returns-clause-no : goal.returns-clause-no
returns-clause-no c = λ none k d low. c.loop-protection.invariant k d (omega (arith, low, c.loop-protection-test.false))

pub loop-protection-init : goal.loop-protection-init
loop-protection-init c = λ k d low. absurd (omega (arith, low))

pub loop-protection-preserved : goal.loop-protection-preserved
loop-protection-preserved c = λ k d low.
    elim (cases_eq k c.loop-protection.protection-index) [
      | inl same ↦
          let none = c.has_class.ensures.no c.if-has_class.false in
          let here : get_or c.args.protections.now k d ≡ c.protection-item.result =
          ap (λ j. get_or c.args.protections.now j d) same ∙ sym (get_or_read_under c.args.protections.now c.loop-protection.protection-index _ c.protection-item.result d c.protection-item.is c.loop-protection-test.true refl) in
          subst (λ p. IsEmpty p.selector) (sym here) none
      | inr apart ↦ c.loop-protection.invariant k d (omega (arith, low, apart))
    ]
