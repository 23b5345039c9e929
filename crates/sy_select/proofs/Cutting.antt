-- Cutting a text at a byte.
use Rattle.std.proofs.Common.{◌≡◌, ℕ, zero, suc, ◌+◌, ◌<◌, false, ◌==◌, inl, inr, List, [], ◌∷◌, ◌++◌, length, get_or, take, drop, Option, Some, None, refl, ap, arith, eq-eqb, eqb-true, add-one, length-drop, ◌-◌}
use Rattle.std.proofs.lemmas.List.{take_all}
use Rattle.std.specs.List.{AllByRecursion}
use Rattle.std.proofs.lemmas.Bool.{cases_Bool, ne_eqb}
use Rattle.sy_select.specs.Faults.{cut, pieces}

-- ---- from a place

pub cut_found : (mark i : ℕ) (bytes : List ℕ) → i < length bytes → ((k : ℕ) → k < i → get_or bytes k 0 ≡ mark → ⊥) → get_or bytes i 0 ≡ mark → cut mark bytes ≡ (take i bytes, Some (drop (suc i) bytes))
unfolding cut
cut_found mark i [] within before here = absurd (omega arith)
cut_found mark zero (b ∷ bytes) within before here = rw (eq-eqb b mark here) refl
cut_found mark (suc i) (b ∷ bytes) within before here =
    let apart = ne_eqb b mark (before 0 (omega arith)) in
    let rest = cut_found mark i bytes (omega arith) (λ k h. before (suc k) (omega arith)) here in
    rw (apart, rest) refl

pub cut_none : (mark : ℕ) (bytes : List ℕ) → ((k : ℕ) → k < length bytes → get_or bytes k 0 ≡ mark → ⊥) → cut mark bytes ≡ (bytes, None)
unfolding cut
cut_none mark [] before = refl
cut_none mark (b ∷ bytes) before =
    let apart = ne_eqb b mark (before 0 (omega arith)) in
    let rest = cut_none mark bytes (λ k h. before (suc k) (omega arith)) in
    rw (apart, rest) refl

-- ---- the pieces

pub pieces_last : (mark : ℕ) (text : List ℕ) → (cut mark text).1 ≡ None → (pieces mark text ≡ (cut mark text).0 ∷ []) × (text ≡ (cut mark text).0)
unfolding cut
pieces_last mark [] e = (refl, refl)
pieces_last mark (b ∷ bytes) e =
    elim (cases_Bool (b == mark)) [
      | inl is_mark ↦ let both : Some bytes ≡ None = rw is_mark at e in cc
      | inr other ↦
          let rest = pieces_last mark bytes (rw other at e) in
          rw other (rw rest.0 refl, ap (λ x. b ∷ x) rest.1)
    ]

pub pieces_more : (mark : ℕ) (text behind : List ℕ) → (cut mark text).1 ≡ Some behind → (pieces mark text ≡ (cut mark text).0 ∷ pieces mark behind) × (text ≡ (cut mark text).0 ++ mark ∷ behind)
unfolding cut
pieces_more mark [] behind e = cc
pieces_more mark (b ∷ bytes) behind e =
    elim (cases_Bool (b == mark)) [
      | inl is_mark ↦
          let both : Some bytes ≡ Some behind = rw is_mark at e in
          let same : bytes ≡ behind = cc in
          let head : b ≡ mark = eqb-true b mark is_mark in
          rw is_mark (rw same refl, rw (head, same) refl)
      | inr other ↦
          let rest = pieces_more mark bytes behind (rw other at e) in
          rw other (rw rest.0 refl, ap (λ x. b ∷ x) rest.1)
    ]

pub first_piece : (mark : ℕ) (text : List ℕ) → (others : List (List ℕ)) × (pieces mark text ≡ (cut mark text).0 ∷ others)
first_piece mark text = go (cut mark text).1 refl
  where
    go : (o : Option (List ℕ)) → (cut mark text).1 ≡ o → (others : List (List ℕ)) × (pieces mark text ≡ (cut mark text).0 ∷ others)
    go None e = ([], (pieces_last mark text e).0)
    go (Some behind) e = (pieces mark behind, (pieces_more mark text behind e).0)

-- ---- texts without the byte

abbrev pub Lacks : ℕ → List ℕ → Type 0
Lacks mark text = AllByRecursion (λ b. (b == mark) ≡ false) text

pub cut_whole : (mark : ℕ) (text : List ℕ) → Lacks mark text → cut mark text ≡ (text, None)
unfolding cut
cut_whole mark [] l = refl
cut_whole mark (b ∷ bytes) l = rw (l.0, cut_whole mark bytes l.1) refl

pub cut_at : (mark : ℕ) (text behind : List ℕ) → Lacks mark text → cut mark (text ++ mark ∷ behind) ≡ (text, Some behind)
unfolding cut
cut_at mark [] behind l = rw (eq-eqb mark mark refl) refl
cut_at mark (b ∷ bytes) behind l = rw (l.0, cut_at mark bytes behind l.1) refl

-- ---- what the code cuts

take_rest : (j : ℕ) (bytes : List ℕ) → take (length bytes - j) (drop j bytes) ≡ drop j bytes
take_rest j bytes = take_all (length bytes - j) (drop j bytes) (omega (arith, length-drop j bytes))

pub front_at : (mark i : ℕ) (bytes : List ℕ) → i < length bytes → ((k : ℕ) → k < i → get_or bytes k 0 ≡ mark → ⊥) → get_or bytes i 0 ≡ mark → take i bytes ≡ (cut mark bytes).0
front_at mark i bytes within before here = rw (cut_found mark i bytes within before here) refl

pub behind_at : (mark i : ℕ) (bytes : List ℕ) → i < length bytes → ((k : ℕ) → k < i → get_or bytes k 0 ≡ mark → ⊥) → get_or bytes i 0 ≡ mark → Some (take (length bytes - (i + 1)) (drop (i + 1) bytes)) ≡ (cut mark bytes).1
behind_at mark i bytes within before here = rw (cut_found mark i bytes within before here, take_rest (i + 1) bytes, add-one) refl
