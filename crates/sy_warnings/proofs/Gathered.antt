-- The lists of classes, gathered one after another.
use Rattle.std.proofs.Common.{◌≡◌, ℕ, ◌<◌, ◌≤◌, ◌+◌, ◌*◌, List, [], ◌∷◌, ◌++◌, refl, sym, ap, subst, ◌∙◌, arith, inl, inr}
use Rattle.std.specs.Prelude.{Contains, ◌⊎◌}
use Rattle.std.proofs.lemmas.Bool.{cases_eq}
use Rattle.std.proofs.lemmas.List.Elements.{Contains-append_left, Contains-push, Contains-push_cases}
use Rattle.sy_wire.specs.declared.class.Class.{Class}
use Rattle.sy_site.specs.Sites.{Site}
use Rattle.sy_warnings.specs.declared.coming.ClassLists.{ClassLists}
use Rattle.sy_warnings.specs.declared.following.Following.{Following}
use Rattle.sy_warnings.specs.Following.{IsAsked}
use Rattle.sy_warnings.specs.internal.Following.{AreMarks, AreOfAll, AreOfAllBelow, AreOfClass}
use Rattle.sy_warnings.proofs.Alike.{one_class}

pub classes_first : (site : Site) (by : Following) → AreOfAllBelow site by 0 []
classes_first site by = record {
  each = λ lists has. (let low = has.1 in absurd (omega (arith, low)));
  whole = λ class asked low. absurd (omega (arith, low));
}

module _ (site : Site) (by : Following) (number : ℕ) (all : List ClassLists) where
  pub class_skip : (class : Class) → 8 * class.facility + class.severity ≡ number → (IsAsked site by class → ⊥) → AreOfAllBelow site by number all
      → AreOfAllBelow site by (number + 1) all
  class_skip class is none are = record {
    each = are.each;
    whole = λ other asked low. elim (cases_eq (8 * other.facility + other.severity) number) [
      | inl same ↦ absurd (none (subst (IsAsked site by) (one_class other class (same ∙ sym is)) asked))
      | inr apart ↦ are.whole other asked (omega (arith, low, apart))
    ];
  }

  pub class_push : (lists : ClassLists) (class : Class) → 8 * class.facility + class.severity ≡ number → IsAsked site by class
      → lists.class ≡ class → AreMarks site class by lists.marks.items → AreOfAllBelow site by number all
      → AreOfAllBelow site by (number + 1) (all ++ lists ∷ [])
  class_push lists class is asked of marks are = record {
    each = λ other has. elim (Contains-push_cases all lists other has) [
      | inl before ↦ are.each other before
      | inr here ↦ subst (AreOfClass site by) here
          (record {
            asked = subst (IsAsked site by) (sym of) asked;
            marks = subst (λ k. AreMarks site k by lists.marks.items) (sym of) marks;
          })
    ];
    whole = λ other other_asked low. elim (cases_eq (8 * other.facility + other.severity) number) [
      | inl same ↦ (lists, Contains-push all lists, of ∙ one_class class other (is ∙ sym same))
      | inr apart ↦
          let old = are.whole other other_asked (omega (arith, low, apart)) in
          (old.0, Contains-append_left all (lists ∷ []) old.0 old.1, old.2)
    ];
  }

pub classes_all : (site : Site) (by : Following) (all : List ClassLists) (most : ℕ) → 192 ≤ most → AreOfAllBelow site by most all → AreOfAll site by all
classes_all site by all most high are = record {
  each = are.each;
  whole = λ class asked.
      (let f = class.facility_in_range in let s = class.severity_in_range in are.whole class asked (omega (arith, f, s, high)));
}
