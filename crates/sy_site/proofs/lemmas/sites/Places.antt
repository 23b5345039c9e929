-- Places in lists.
use Rattle.std.proofs.Common.{◌≡◌, ℕ, Bool, true, false, ◌+◌, ◌≤◌, not, cond, get_or, inl, inr, List, [], ◌∷◌, length, map, Some, None, refl, sym, ap, ◌∙◌, arith}
use Rattle.std.proofs.lemmas.List.{length-map}
use Rattle.std.proofs.lemmas.Bool.{cases_lt, false≢true, lt-ltb}
use Rattle.std.proofs.lemmas.List.Sums.{fails_before_first}
use Rattle.std.specs.Prelude.{Contains}
use Rattle.std.specs.List.{position, position_or_len}

place_map : {A B : Type 0} (f : A → B) (p : B → Bool) (xs : List A) → position_or_len p (map f xs) ≡ position_or_len (λ x. p (f x)) xs
place_map f p [] = refl
place_map f p (x ∷ xs) = ap (λ n. cond (not (p (f x))) (1 + n) 0) (place_map f p xs)

-- the place in a list of what was made of another list's elements
pub position_map : {A B : Type 0} (f : A → B) (p : B → Bool) (xs : List A) → position p (map f xs) ≡ position (λ x. p (f x)) xs
position_map f p xs = rw (place_map f p xs, length-map xs f) refl

no_number : {n : ℕ} → None ≡ Some n → ⊥
no_number e = cc

no_place : {A : Type 0} (p : A → Bool) (xs : List A) → position p xs ≡ None → length xs ≤ position_or_len p xs
no_place p xs e = elim (cases_lt (position_or_len p xs) (length xs)) [
  | inl low ↦ absurd (no_number (sym e ∙ ap (λ b. cond b (Some (position_or_len p xs)) None) (lt-ltb _ _ low)))
  | inr high ↦ high
]

-- where there is no place, no element passes
pub place_none : {A : Type 0} (p : A → Bool) (xs : List A) → position p xs ≡ None → (x : A) → Contains xs x → p x ≡ true → ⊥
place_none p xs none x (k, l, is) passes =
    let past : length xs ≤ position_or_len p xs = no_place p xs none in
    let fails : p (get_or xs k x) ≡ false = fails_before_first p xs k x (omega (arith, l, past)) in
    false≢true (sym fails ∙ ap p is ∙ passes)
