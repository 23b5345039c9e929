-- An option that stands among words has a place there.
use Rattle.std.proofs.Common.{◌≡◌, ℕ, ◌≤◌, ◌+◌, Bool, true, false, not, List, [], ◌∷◌, length, map, Some, None, refl, arith, nat_lt}
use Rattle.std.specs.Prelude.{cond}
use Rattle.std.specs.List.{position, position_or_len}
use Rattle.std.specs.Str.{bytes_eq}
use Rattle.std.proofs.lemmas.Bool.Decides.{nat_tests}
use Rattle.sy_report.specs.Words.{once_if, times}

-- where nothing passes, all is before the first that does
past_all : {X : Type 0} (p : X → Bool) (xs : List X) → position p xs ≡ None → length xs ≤ position_or_len p xs
past_all p xs none = go (nat_lt (position_or_len p xs) (length xs)) refl none
  where
    go : (b : Bool) → nat_lt (position_or_len p xs) (length xs) ≡ b → cond b (Some (position_or_len p xs)) None ≡ None → length xs ≤ position_or_len p xs
    go true e none = absurd (cc)
    go false e none = grind (arith, nat_tests)

none_among : {X : Type 0} (f : X → List ℕ) (option : List ℕ) (xs : List X) → length xs ≤ position_or_len (λ x. bytes_eq (f x) option) xs
    → times option (map f xs) ≡ 0
none_among f option [] all = refl
none_among f option (x ∷ xs) all = go (bytes_eq (f x) option) (none_among f option xs) all
  where
    go : (b : Bool) → (length xs ≤ position_or_len (λ y. bytes_eq (f y) option) xs → times option (map f xs) ≡ 0)
        → ℕ.suc (length xs) ≤ cond (not b) (1 + position_or_len (λ y. bytes_eq (f y) option) xs) 0 → once_if b + times option (map f xs) ≡ 0
    go true rest all = absurd (omega (arith, all))
    go false rest all = let none = rest (omega (arith, all)) in omega (arith, none)

-- words with the option once have a place of it
pub no_place : {X : Type 0} (f : X → List ℕ) (option : List ℕ) (xs : List X) → position (λ x. bytes_eq (f x) option) xs ≡ None → times option (map f xs) ≡ 1 → ⊥
no_place f option xs none once = let zero = none_among f option xs (past_all (λ x. bytes_eq (f x) option) xs none) in omega (arith, zero, once)
