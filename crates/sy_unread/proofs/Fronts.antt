-- Digits as a prefix of bytes, up to nine of them.
use Rattle.std.proofs.Common.{◌≡◌, ◌≢◌, ℕ, ◌+◌, ◌*◌, ◌-◌, ◌/◌, ◌%◌, ◌<◌, ◌≤◌, ◌⊎◌, inl, inr, List, [], ◌∷◌, ◌++◌, length, get_or, take, drop, refl, sym, ap, ◌∙◌, arith}
use Rattle.std.specs.Fmt.{decimal}
use Rattle.std.proofs.lemmas.Fmt.{decimal_digit, decimal_step, length-decimal-le}
use Rattle.std.proofs.lemmas.List.{take_more, drop_more, take-append-drop, length-take-le, nil_from_length, take_all}
use Rattle.sy_wire.specs.Characters.{IsDigit}
use Rattle.sy_unread.specs.Skipping.{IsNumbered, IsUnframed}
use Rattle.sy_unread.specs.internal.Fronts.{HasHead}

-- the first i bytes are digits without leading zeros that make n, at most nine
abbrev pub HasDigits : List ℕ → ℕ → ℕ → Type 0
HasDigits bytes i n = ((i ≡ 0) × (n ≡ 0)) ⊎ ((0 < i) × IsNumbered n × (take i bytes ≡ decimal n))

-- one more digit
decimal_push : (n d : ℕ) → 0 < n → n < 1000000000 → d < 10 → decimal (n * 10 + d) ≡ decimal n ++ (48 + d) ∷ []
decimal_push n d positive small digit =
    let quotient : (n * 10 + d) / 10 ≡ n = omega arith in
    let rest : (n * 10 + d) % 10 ≡ d = omega arith in
    rw (decimal_step (n * 10 + d) (omega arith) (omega arith), quotient, rest) refl

-- the digits that i bytes make, and the digit after them
pub digits_more : (bytes : List ℕ) (i n b : ℕ) → i < length bytes → get_or bytes i 0 ≡ b → IsDigit b → (i ≡ 0 → b ≢ 48) → HasDigits bytes i n
    → (take (i + 1) bytes ≡ decimal (n * 10 + (b - 48))) × (0 < n * 10 + (b - 48))
digits_more bytes i n b within here digit first (inl none) =
    let at_start : i ≡ 0 = none.0 in
    let value : n * 10 + (b - 48) ≡ b - 48 = omega arith in
    let glyph : 48 + (b - 48) ≡ b = omega arith in (
      rw (take_more bytes i 0 within, here, at_start, value, decimal_digit (b - 48) (omega arith), glyph) refl,
      (let apart : b ≢ 48 = first at_start in omega arith),
    )
digits_more bytes i n b within here digit first (inr some) =
    let glyph : 48 + (b - 48) ≡ b = omega arith in (
      rw (take_more bytes i 0 within, here, some.2, decimal_push n (b - 48) (omega arith) (omega arith) (omega arith), glyph) refl,
      omega arith,
    )

-- at most nine digits, where there is one more byte at most
pub few_digits : (bytes : List ℕ) (i n : ℕ) → i ≤ length bytes → HasDigits bytes i n → i ≤ 9
few_digits bytes i n within (inl none) = omega (arith, none.0)
few_digits bytes i n within (inr some) =
    let size : length (decimal n) ≡ i = sym (ap length some.2) ∙ length-take-le i bytes within in
    let short = length-decimal-le 9 n (omega arith) (let f : n < 1000000000 = some.1.1 in omega arith) (omega (arith, some.1.1)) in
    omega arith

-- the bytes go on after the digits
behind : (bytes front : List ℕ) (i : ℕ) → take i bytes ≡ front → bytes ≡ front ++ drop i bytes
behind bytes front i e = sym (sym (ap (λ x. x ++ drop i bytes) e) ∙ take-append-drop i bytes)

-- a tenth digit
pub ten_digits : (bytes : List ℕ) (i n : ℕ) → take i bytes ≡ decimal n → 1000000000 ≤ n → n < 10000000000 → IsUnframed bytes
ten_digits bytes i n digits above below = inr (inr (n, drop i bytes, above, below, behind bytes _ i digits))

-- a byte after i bytes
behind_byte : (bytes front : List ℕ) (i b : ℕ) → i < length bytes → get_or bytes i 0 ≡ b → take i bytes ≡ front → bytes ≡ front ++ b ∷ drop (i + 1) bytes
behind_byte bytes front i b within here e = rw (← here, ← drop_more bytes i 0 within) (behind bytes front i e)

pub not_framed : (bytes : List ℕ) (i n b : ℕ) → i < length bytes → get_or bytes i 0 ≡ b → HasDigits bytes i n → (IsDigit b → ⊥) → (0 < i → b ≢ 32) → IsUnframed bytes
not_framed bytes i n b within here (inl none) not_digit not_space =
    let at_start : take i bytes ≡ [] = rw none.0 refl in
    inl (b, drop (i + 1) bytes, behind_byte bytes [] i b within here at_start, λ _. not_digit)
not_framed bytes i n b within here (inr some) not_digit not_space =
    inr (inl (n, b, drop (i + 1) bytes, some.1, behind_byte bytes _ i b within here some.2, not_digit, not_space some.0))

pub zero_first : (bytes : List ℕ) (i : ℕ) → i < length bytes → get_or bytes i 0 ≡ 48 → i ≡ 0 → IsUnframed bytes
zero_first bytes i within here first =
    let at_start : take i bytes ≡ [] = rw first refl in
    inl (48, drop (i + 1) bytes, behind_byte bytes [] i 48 within here at_start, λ apart _. apart refl)

pub has_head : (bytes : List ℕ) (i n : ℕ) → i < length bytes → get_or bytes i 0 ≡ 32 → HasDigits bytes i n → 0 < i → IsNumbered n × HasHead bytes n (i + 1)
has_head bytes i n within here (inl none) later = absurd (omega (arith, none.0))
has_head bytes i n within here (inr some) later =
    let size : length (decimal n) ≡ i = sym (ap length some.2) ∙ length-take-le i bytes (omega arith) in
    let few = few_digits bytes i n (omega arith) (inr some) in
    (some.1, record { rest = drop (i + 1) bytes; whole = behind_byte bytes _ i 32 within here some.2; from_is = omega arith; short = omega arith })

pub open_front : (bytes : List ℕ) (i n : ℕ) → i ≡ length bytes → HasDigits bytes i n → (length bytes < 10) × ((bytes ≡ []) ⊎ ((m : ℕ) × IsNumbered m × (bytes ≡ decimal m)))
open_front bytes i n all digits =
    let few = few_digits bytes i n (omega arith) digits in
    (omega arith, open_by digits)
  where
    open_by : HasDigits bytes i n → (bytes ≡ []) ⊎ ((m : ℕ) × IsNumbered m × (bytes ≡ decimal m))
    open_by (inl none) = inl (nil_from_length bytes (omega (arith, none.0)))
    open_by (inr some) = inr (n, some.1, sym (take_all i bytes (omega arith)) ∙ some.2)

-- what the digits make with one more
pub more_bound : (bytes : List ℕ) (i n b : ℕ) → HasDigits bytes i n → IsDigit b → n * 10 + (b - 48) < 10000000000
more_bound bytes i n b (inl none) digit = let zero : n ≡ 0 = none.1 in let most : b ≤ 57 = digit.1 in omega arith
more_bound bytes i n b (inr some) digit = let small : n < 1000000000 = some.1.1 in let most : b ≤ 57 = digit.1 in omega arith
