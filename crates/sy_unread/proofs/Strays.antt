-- The byte that shows why bytes begin no frame.
use Rattle.std.proofs.Common.{◌≡◌, ◌≢◌, ℕ, ◌+◌, ◌<◌, ◌≤◌, inl, inr, List, [], ◌∷◌, ◌++◌, length, get_or, take, drop, refl, sym, ap, ◌∙◌, arith}
use Rattle.std.proofs.lemmas.List.{append-nil, take_all, take_more}
use Rattle.std.specs.Fmt.{decimal}
use Rattle.sy_wire.specs.Characters.{IsDigit, space}
use Rattle.sy_wire.specs.Frames.{IsOpen}
use Rattle.sy_wire.specs.declared.framer.FrameFault.TheVariants.{BadLength, TooLong}
use Rattle.sy_wire.proofs.Digits.{HasDigits, behind_byte}
use Rattle.sy_wire.proofs.Opens.{partial_open}
use Rattle.sy_unread.specs.Skipping.{IsUnframed}
use Rattle.sy_unread.specs.Strays.{FailsAt}
use Rattle.sy_unread.proofs.Skipped.{never_stray, some_stray}

-- the bytes before a place, which are digits
open_before : (bytes : List ℕ) (i n : ℕ) → HasDigits bytes i n → IsOpen (take i bytes)
open_before bytes i n (inl none) = partial_open _ (inl (rw none.0 refl))
open_before bytes i n (inr some) = partial_open _ (inr (inl (n, some.1, some.2)))

pub fails_bad : (bytes : List ℕ) (i n b : ℕ) → i < length bytes → get_or bytes i 0 ≡ b → HasDigits bytes i n → (IsDigit b → ⊥) → (0 < i → b ≢ 32) → FailsAt BadLength i bytes
fails_bad bytes i n b within here (inl none) not_digit not_space =
    let before = open_before bytes i n (inl none) in
    let at_start : take i bytes ≡ [] = rw none.0 refl in
    let front : take (i + 1) bytes ≡ b ∷ [] = take_more bytes i 0 within ∙ ap (λ x. x ++ get_or bytes i 0 ∷ []) at_start ∙ ap (λ x. x ∷ []) here in
    record { within = within; shown = inl (b, [], front, λ _. not_digit); not_bad = before.not_bad; not_long = before.not_long }
fails_bad bytes i n b within here (inr some) not_digit not_space =
    let before = open_before bytes i n (inr some) in
    let front : take (i + 1) bytes ≡ decimal n ++ b ∷ [] = take_more bytes i 0 within ∙ ap (λ x. x ++ get_or bytes i 0 ∷ []) some.2 ∙ ap (λ x. decimal n ++ x ∷ []) here in
    record { within = within; shown = inr (n, b, [], some.1, front, not_digit, not_space some.0); not_bad = before.not_bad; not_long = before.not_long }

pub fails_zero : (bytes : List ℕ) (i n : ℕ) → i < length bytes → get_or bytes i 0 ≡ 48 → i ≡ 0 → HasDigits bytes i n → FailsAt BadLength i bytes
fails_zero bytes i n within here first digits =
    let before = open_before bytes i n digits in
    let at_start : take i bytes ≡ [] = rw first refl in
    let front : take (i + 1) bytes ≡ 48 ∷ [] = take_more bytes i 0 within ∙ ap (λ x. x ++ get_or bytes i 0 ∷ []) at_start ∙ ap (λ x. x ∷ []) here in
    record { within = within; shown = inl (48, [], front, λ apart _. apart refl); not_bad = before.not_bad; not_long = before.not_long }

pub fails_long : (bytes : List ℕ) (i n m : ℕ) → i < length bytes → HasDigits bytes i n → take (i + 1) bytes ≡ decimal m → 65536 < m → m < 1000000 → FailsAt TooLong i bytes
fails_long bytes i n m within digits front above below =
    let before = open_before bytes i n digits in
    record { within = within; shown = (m, [], above, below, front ∙ sym (append-nil (decimal m))); not_bad = before.not_bad; not_long = before.not_long }

-- what has a head begins a frame
pub head_is_framed : (bytes : List ℕ) (i n : ℕ) → i < length bytes → get_or bytes i 0 ≡ 32 → HasDigits bytes i n → 0 < i → IsUnframed bytes → ⊥
head_is_framed bytes i n within here (inl none) later is = absurd (omega (arith, none.0))
head_is_framed bytes i n within here (inr some) later is =
    never_stray n (drop (i + 1) bytes) bytes bytes [] (some.1.0, omega (arith, some.1.1)) (behind_byte bytes _ i 32 within here some.2) (sym (append-nil bytes)) is

-- digits alone may begin one
pub digits_are_framed : (bytes : List ℕ) (i n : ℕ) → length bytes ≤ i → HasDigits bytes i n → IsUnframed bytes → ⊥
digits_are_framed bytes i n all (inl none) is = some_stray bytes is (let whole : take i bytes ≡ bytes = take_all i bytes all in sym whole ∙ rw none.0 refl)
digits_are_framed bytes i n all (inr some) is =
    let whole : bytes ≡ decimal n = sym (take_all i bytes all) ∙ some.2 in
    never_stray n [] (bytes ++ space ∷ []) bytes (space ∷ []) (some.1.0, omega (arith, some.1.1)) (ap (λ x. x ++ space ∷ []) whole) refl is
