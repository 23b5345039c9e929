-- The search for a text finds a place exactly where the text contains it.
use Rattle.std.proofs.Common.{◌≡◌, ◌≤◌, ◌+◌, ℕ, zero, suc, Bool, true, false, ◌||◌, ◌⊎◌, inl, inr, nat_eq, List, [], ◌∷◌, ◌++◌, length, drop, take, Option, Some, None, refl, sym, ap, ◌∙◌, arith}
use Rattle.std.specs.Prelude.{is_some}
use Rattle.std.specs.List.{starts_with}
use Rattle.std.proofs.Math.Bool.{or-true}
use Rattle.std.proofs.lemmas.Bool.Decides.{Decides-eqb}
use Rattle.std.proofs.lemmas.List.{length-append, length-drop}
use Rattle.std.proofs.Math.Seq.{take-append_seam}
use Rattle.std.proofs.lemmas.Slice.Eq.{starts_is}
use Rattle.memchr.specs.Find.{OccursAt, FindsNeedle}
use Rattle.memchr.proofs.lemmas.MatchLemmas.{OccursAt-split, OccursAt-from_part}
use Rattle.sy_select.specs.Properties.{contains}

-- it begins with the text exactly where the text and something else are the whole
pub begins : (text other rest : List ℕ) → text ≡ other ++ rest → starts_with nat_eq text other ≡ true
begins text other rest is = (starts_is Decides-eqb text other (starts_with nat_eq text other) refl).1 rest is

pub begun : (text other : List ℕ) → starts_with nat_eq text other ≡ true → text ≡ other ++ drop (length other) text
begun text other h = (starts_is Decides-eqb text other (starts_with nat_eq text other) refl).0 h

pub contains_at : (k : ℕ) (text other rest : List ℕ) → k ≤ length text → drop k text ≡ other ++ rest → contains text other ≡ true
contains_at zero [] other rest within is = begins [] other rest is
contains_at zero (b ∷ text) other rest within is = ap (λ r. r || contains text other) (begins (b ∷ text) other rest is)
contains_at (suc k) [] other rest within is = absurd (omega arith)
contains_at (suc k) (b ∷ text) other rest within is = ap (λ r. starts_with nat_eq (b ∷ text) other || r) (contains_at k text other rest (omega arith) is) ∙ or-true _

pub record Found (text other : List ℕ) : Type 0 where
  pub at : ℕ
  pub rest : List ℕ
  pub within : at ≤ length text
  pub is : drop at text ≡ other ++ rest

or_cases : (a b : Bool) → (a || b) ≡ true → (a ≡ true) ⊎ (b ≡ true)
or_cases true b h = inl refl
or_cases false b h = inr h

pub found : (text other : List ℕ) → contains text other ≡ true → Found text other
found [] other h = record { at = 0; rest = drop (length other) []; within = omega arith; is = begun [] other h }
found (b ∷ text) other h =
    elim (or_cases (starts_with nat_eq (b ∷ text) other) (contains text other) h) [
      | inl here ↦ record { at = 0; rest = drop (length other) (b ∷ text); within = omega arith; is = begun (b ∷ text) other here }
      | inr later ↦ let f = found text other later in record { at = suc f.at; rest = f.rest; within = let w = f.within in omega arith; is = f.is }
    ]

occurs : (text other : List ℕ) (f : Found text other) → OccursAt text other f.at
occurs text other f =
    let left : length (drop f.at text) ≡ length other + length f.rest = ap length f.is ∙ length-append other f.rest in
    let w = f.within in
    let d = length-drop f.at text in
    let fits : f.at + length other ≤ length text = omega arith in
    OccursAt-from_part text other f.at fits (ap (take (length other)) f.is ∙ take-append_seam other f.rest)

nowhere : (text other : List ℕ) (b : Bool) → FindsNeedle text other 0 None → contains text other ≡ b → false ≡ b
nowhere text other false h is = refl
nowhere text other true h is =
    let f = found text other is in
    let w = f.within in
    absurd (h f.at (omega arith) (omega arith) (occurs text other f))

pub contains_is : (text other : List ℕ) (r : Option ℕ) → FindsNeedle text other 0 r → is_some r ≡ contains text other
contains_is text other (Some k) h = sym (contains_at k text other (drop (k + length other) text) (let f = h.1.fits in omega arith) (OccursAt-split text other k h.1))
contains_is text other None h = nowhere text other (contains text other) h refl
