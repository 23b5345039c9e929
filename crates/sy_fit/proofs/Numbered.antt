-- Protected classes, number after number.
use Rattle.std.proofs.Common.{◌≡◌, ℕ, ◌<◌, ◌≤◌, ◌+◌, ◌*◌, true, false, List, [], ◌∷◌, ◌++◌, sym, ◌∙◌, arith, inl, inr, subst}
use Rattle.std.specs.Prelude.{◌⊎◌}
use Rattle.std.proofs.lemmas.Bool.{cases_eq, false≢true}
use Rattle.sy_wire.specs.declared.class.Class.{Class}
use Rattle.sy_site.specs.Sites.{Site, is_protected}
use Rattle.sy_fit.specs.Fit.{AreProtected, number_of}
use Rattle.sy_fit.specs.internal.Order.{AreProtectedBelow}
use Rattle.sy_fit.proofs.Judged.{one_class}
use Rattle.sy_fit.proofs.InOrder.{lists_as, lists_more, lists_none}

abbrev IsBelow : Site → ℕ → Class → Type 0
IsBelow site most class = (is_protected site class ≡ true) × (number_of class < most)

abbrev Rises : Class → Class → Type 0
Rises a b = number_of a < number_of b

pub classes_first : (site : Site) → AreProtectedBelow site 0 []
classes_first site = lists_none (IsBelow site 0) Rises (λ class is. (let low = is.1 in omega (arith, low)))

module _ (site : Site) (number : ℕ) (classes : List Class) (class : Class) (is : 8 * class.facility + class.severity ≡ number)
    (are : AreProtectedBelow site number classes) where
  later : (x : Class) → IsBelow site number x → IsBelow site (number + 1) x
  later x b = let low = b.1 in (b.0, omega (arith, low))

  below_or_it : (x : Class) → IsBelow site (number + 1) x → IsBelow site number x ⊎ (class ≡ x)
  below_or_it x b =
      let low = b.1 in
      elim (cases_eq (number_of x) number) [
        | inl same ↦ inr (one_class class x (is ∙ sym same))
        | inr apart ↦ inl (b.0, omega (arith, low, apart))
      ]

  pub class_skip : is_protected site class ≡ false → AreProtectedBelow site (number + 1) classes
  class_skip none = lists_as (IsBelow site number) (IsBelow site (number + 1)) Rises classes later
      (λ x b. elim (below_or_it x b) [
        | inl low ↦ low
        | inr here ↦ absurd (false≢true (sym none ∙ subst (λ z. is_protected site z ≡ true) (sym here) b.0))
      ])
      are

  pub class_push : is_protected site class ≡ true → AreProtectedBelow site (number + 1) (classes ++ class ∷ [])
  class_push asked = lists_more (IsBelow site number) (IsBelow site (number + 1)) Rises classes class
      (λ x b. (let low = b.1 in omega (arith, low, is))) later (asked, omega (arith, is)) below_or_it are

pub classes_all : (site : Site) (classes : List Class) (most : ℕ) → 192 ≤ most → AreProtectedBelow site most classes → AreProtected site classes
classes_all site classes most all are = lists_as (IsBelow site most) (λ class. is_protected site class ≡ true) Rises classes (λ x b. b.0)
    (λ x p. (
      p,
      (let f = x.facility_in_range in let s = x.severity_in_range in omega (arith, f, s, all)),
    )) are
