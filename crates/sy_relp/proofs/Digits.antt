-- Digits as the front of bytes.
use Rattle.std.proofs.Common.{◌≡◌, ℕ, ◌<◌, ◌≤◌, List, [], ◌∷◌, ◌++◌, length, get_or, take, refl, arith}
use Rattle.std.specs.Fmt.{decimal}
use Rattle.std.specs.Str.Parse.{AllDigits}
use Rattle.std.proofs.lemmas.Fmt.{decimal_is_IsNumeral}
use Rattle.std.proofs.lemmas.Str.Parse.{digit_from_value, digits_value-take-le}
use Rattle.std.proofs.lemmas.List.{take_at}
use Rattle.sy_wire.specs.Characters.{IsDigit}

pub data Digits : List ℕ → Type 0 where
  none : Digits []
  more : {b : ℕ} {bs : List ℕ} → IsDigit b → Digits bs → Digits (b ∷ bs)

pub digits_from_all : (bs : List ℕ) → AllDigits 10 bs → Digits bs
digits_from_all [] all = none
digits_from_all (b ∷ bs) all = more (digit_from_value b all.0) (digits_from_all bs all.1)

-- what stands before the first byte that is no digit
pub one_front : (a b : List ℕ) (c d : ℕ) (x y : List ℕ) → Digits a → Digits b → (IsDigit c → ⊥) → (IsDigit d → ⊥) → a ++ c ∷ x ≡ b ++ d ∷ y → (a ≡ b) × (c ≡ d) × (x ≡ y)
one_front [] [] c d x y p q nc nd e = (refl, cc, cc)
one_front [] (b ∷ bs) c d x y p (more q qs) nc nd e = let same : c ≡ b = cc in absurd (nc (rw same q))
one_front (a ∷ az) [] c d x y (more p ps) q nc nd e = let same : a ≡ d = cc in absurd (nd (rw (← same) p))
one_front (a ∷ az) (b ∷ bs) c d x y (more p ps) (more q qs) nc nd e =
    let rest : az ++ c ∷ x ≡ bs ++ d ∷ y = cc in
    let head : a ≡ b = cc in
    let parts = one_front az bs c d x y ps qs nc nd rest in
    (let tail : az ≡ bs = parts.0 in cc, parts.1, parts.2)

-- digits have no other byte in them
pub only_digits : (a b : List ℕ) (c : ℕ) (x : List ℕ) → Digits a → (IsDigit c → ⊥) → a ≡ b ++ c ∷ x → ⊥
only_digits [] [] c x none not_digit e = cc
only_digits [] (b ∷ bs) c x none not_digit e = cc
only_digits (a ∷ az) [] c x (more p ps) not_digit e = let same : a ≡ c = cc in not_digit (rw (← same) p)
only_digits (a ∷ az) (b ∷ bs) c x (more p ps) not_digit e = let rest : az ≡ bs ++ c ∷ x = cc in only_digits az bs c x ps not_digit rest

pub begins_digit : (ds : List ℕ) (b : ℕ) (bytes rest : List ℕ) → Digits ds → 0 < length ds → b ∷ bytes ≡ ds ++ rest → IsDigit b
begins_digit [] b bytes rest all some e = absurd (omega (arith, some))
begins_digit (d ∷ ds) b bytes rest (more p ps) some e = let same : d ≡ b = cc in rw (← same) p

-- a prefix of digits stands within all the digits there
pub front_digits : (a b : List ℕ) (c : ℕ) (x y : List ℕ) → Digits b → (IsDigit c → ⊥) → a ++ c ∷ x ≡ b ++ y → (t : List ℕ) × (a ≡ b ++ t)
front_digits a [] c x y none not_digit e = (a, refl)
front_digits [] (b ∷ bs) c x y (more q qs) not_digit e = let same : c ≡ b = cc in absurd (not_digit (rw same q))
front_digits (a ∷ az) (b ∷ bs) c x y (more q qs) not_digit e =
    let rest : az ++ c ∷ x ≡ bs ++ y = cc in
    let same : a ≡ b = cc in
    let parts = front_digits az bs c x y qs not_digit rest in
    (parts.0, let tail : az ≡ bs ++ parts.0 = parts.1 in cc)

pub first_of : (ds y : List ℕ) (b : ℕ) (rest : List ℕ) → Digits ds → 0 < length ds → 48 < get_or ds 0 0 → ds ++ y ≡ b ∷ rest → IsDigit b × (48 < b)
first_of [] y b rest none some above e = absurd (omega arith)
first_of (d ∷ ds) y b rest (more p ps) some above e = let same : d ≡ b = cc in rw (← same) (p, above)

-- digits within digits make no more
pub value_le : (m n : ℕ) (t : List ℕ) → m < 100000000000 → n < 100000000000 → decimal n ≡ decimal m ++ t → m ≤ n
value_le m n t small small' e =
    let of_m = (decimal_is_IsNumeral m (omega arith)).1 in
    let of_n = (decimal_is_IsNumeral n (omega arith)).1 in
    let front : take (length (decimal m)) (decimal n) ≡ decimal m = rw e (take_at (decimal m) t (length (decimal m)) refl) in
    let le = digits_value-take-le 10 (decimal n) (length (decimal m)) (omega arith) in
    rw (front, of_m, of_n) at le

pub space_is_none : IsDigit 32 → ⊥
space_is_none digit = omega (arith, digit.0)
