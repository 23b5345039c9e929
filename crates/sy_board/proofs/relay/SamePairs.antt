-- Pairs of an input and a class that are compared.
use Rattle.std.proofs.Common.{◌≡◌, ℕ, ◌<◌, ◌∙◌, ◌==◌, ◌&&◌, Bool, true, List, [], ◌∷◌, Some, length, ap, arith, refl, sym}
use Rattle.std.specs.Prelude.{slice_get}
use Rattle.std.specs.Coded.{le_prop}
use mathlib.Core.HLevel.{is_prop→PathP}
use Rattle.std.proofs.lemmas.Bool.{and_from, and_parts, eq-eqb, eqb-true}
use Rattle.sy_wire.specs.declared.class.Class.{Class}

-- that the two numbers are in range has one proof each
pub same_class : (a b : Class) → a.facility ≡ b.facility → a.severity ≡ b.severity → a ≡ b
same_class a b f s = λ i. record {
  facility = f i;
  severity = s i;
  facility_in_range = is_prop→PathP (λ j. f j < 24) (λ j. hlevel le_prop) a.facility_in_range b.facility_in_range i;
  severity_in_range = is_prop→PathP (λ j. s j < 8) (λ j. hlevel le_prop) a.severity_in_range b.severity_in_range i;
}

-- pairs of one input, by the test of their classes
pub one_pair : (one other : ℕ × Class) (b : Bool) → one.0 ≡ other.0 → b ≡ (one.1.facility == other.1.facility && one.1.severity == other.1.severity)
    → (b ≡ true → one ≡ other) × (one ≡ other → b ≡ true)
one_pair one other b input is = (
  λ t.
      let parts = and_parts (one.1.facility == other.1.facility) _ (sym is ∙ t) in
      let class = same_class one.1 other.1 (eqb-true one.1.facility other.1.facility parts.0) (eqb-true one.1.severity other.1.severity parts.1) in
      λ i. (input i, class i),
  λ same. is ∙ and_from (one.1.facility == other.1.facility) _
      (eq-eqb one.1.facility other.1.facility (ap (λ (p : ℕ × Class). p.1.facility) same))
      (eq-eqb one.1.severity other.1.severity (ap (λ (p : ℕ × Class). p.1.severity) same)),
)

some_same : {A : Type 0} (x y : A) → Some x ≡ Some y → x ≡ y
some_same x y e = cc

-- lists of one length with the same at each place
pub same_list : {A : Type 0} (xs ys : List A) → length xs ≡ length ys → ((k : ℕ) → k < length xs → slice_get xs k ≡ slice_get ys k) → xs ≡ ys
same_list [] [] many each = refl
same_list [] (y ∷ ys) many each = absurd (omega (arith, many))
same_list (x ∷ xs) [] many each = absurd (omega (arith, many))
same_list (x ∷ xs) (y ∷ ys) many each =
    let first = some_same x y (each 0 (omega arith)) in
    let later = same_list xs ys (omega (arith, many)) (λ k low. each (ℕ.suc k) (omega (arith, low))) in
    ap (λ z. z ∷ xs) first ∙ ap (λ zs. y ∷ zs) later
