-- Numbers of a relay's lists are put among those of all relays.
use Rattle.std.proofs.Common.{◌≡◌, ℕ, suc, ◌<◌, List, [], ◌∷◌, length, set, Some, refl, sym, ap, subst, ◌∙◌, arith, inl, inr}
use Rattle.std.specs.Prelude.{slice_get}
use Rattle.std.proofs.lemmas.Bool.{cases_eq}
use Rattle.sy_wire.specs.declared.class.Class.{Class}
use Rattle.sy_site.specs.declared.site.SiteInput.{SiteInput}
use Rattle.sy_site.specs.Sites.{Site}
use Rattle.sy_checker.specs.declared.inner.RelayNumbers.{RelayNumbers}
use Rattle.sy_checker.specs.internal.Inner.{AreAllDone, AreDone, AreNumbered, HasNumbers, KeepsDone, KeepsNumbers}
use Rattle.sy_checker.proofs.Numbering.{kept_all}
use Rattle.sy_flows.proofs.Walking.{one_value}

set_length : (xs : List RelayNumbers) (k : ℕ) (y : RelayNumbers) → length (set xs k y) ≡ length xs
set_length [] k y = refl
set_length (x ∷ xs) ℕ.zero y = refl
set_length (x ∷ xs) (ℕ.suc k) y = ap suc (set_length xs k y)

set_here : (xs : List RelayNumbers) (k : ℕ) (y : RelayNumbers) → k < length xs → slice_get (set xs k y) k ≡ Some y
set_here [] k y low = absurd (omega (arith, low))
set_here (x ∷ xs) ℕ.zero y low = refl
set_here (x ∷ xs) (ℕ.suc k) y low = set_here xs k y (omega (arith, low))

set_there : (xs : List RelayNumbers) (k j : ℕ) (y : RelayNumbers) → (j ≡ k → ⊥) → slice_get (set xs k y) j ≡ slice_get xs j
set_there [] k j y other = refl
set_there (x ∷ xs) ℕ.zero ℕ.zero y other = absurd (other refl)
set_there (x ∷ xs) ℕ.zero (ℕ.suc j) y other = refl
set_there (x ∷ xs) (ℕ.suc k) ℕ.zero y other = refl
set_there (x ∷ xs) (ℕ.suc k) (ℕ.suc j) y other = set_there xs k j y (λ same. other (ap suc same))

module _ (site : Site) (class : Class) (numbers : List RelayNumbers) (relay : ℕ) (old new : RelayNumbers) (stands : slice_get numbers relay ≡ Some old)
    (low : relay < length numbers) where
  pub numbers_push : AreNumbered site class numbers → AreDone site class relay new.lists.items → AreNumbered site class (set numbers relay new)
  numbers_push are done = record {
    length_is = set_length numbers relay new ∙ are.length_is;
    each = λ r x is. elim (cases_eq r relay) [
      | inl same ↦
          (let here = subst (λ k. slice_get (set numbers relay new) k ≡ Some x) same is in
          let its = one_value (sym (set_here numbers relay new low) ∙ here) in
          subst (λ k. AreDone site class k x.lists.items) (sym same)
          (subst (λ (y : RelayNumbers). AreDone site class relay y.lists.items) its done))
      | inr other ↦ are.each r x (sym (set_there numbers relay r new other) ∙ is)
    ];
  }

  pub numbers_kept : KeepsDone old.lists.items new.lists.items → KeepsNumbers numbers (set numbers relay new)
  numbers_kept kept r own is = elim (cases_eq r relay) [
    | inl same ↦
        (let its = one_value (sym stands ∙ subst (λ k. slice_get numbers k ≡ Some own) same is) in (
          new,
          subst (λ k. slice_get (set numbers relay new) k ≡ Some new) (sym same) (set_here numbers relay new low),
          subst (λ (y : RelayNumbers). KeepsDone y.lists.items new.lists.items) its kept,
        ))
    | inr other ↦ (own, set_there numbers relay r new other ∙ is, kept_all own.lists.items)
  ]

  pub numbers_of_input : (input : SiteInput) → input.relay ≡ relay → AreAllDone site class input new.lists.items
      → HasNumbers site class (set numbers relay new) input
  numbers_of_input input same done = record {
    own = new;
    stands = subst (λ k. slice_get (set numbers relay new) k ≡ Some new) (sym same) (set_here numbers relay new low);
    done = done;
  }
