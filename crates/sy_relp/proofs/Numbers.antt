-- Numbers and words as the front of bytes.
use Rattle.std.proofs.Common.{◌≡◌, ◌≢◌, ℕ, zero, suc, ◌+◌, ◌*◌, ◌-◌, ◌/◌, ◌%◌, ◌<◌, ◌≤◌, ◌⊎◌, inl, inr, List, [], ◌∷◌, ◌++◌, length, get_or, take, drop, refl, sym, ap, ◌∙◌, arith}
use Rattle.std.specs.List.{AllByRecursion}
use Rattle.std.specs.Fmt.{decimal}
use Rattle.std.proofs.lemmas.Fmt.{decimal_digit, decimal_step}
use Rattle.std.proofs.lemmas.List.{drop_at, length-append, take_more, take-append-drop}
use Rattle.std.specs.Prelude.{Bool, slice_range, false}
use Rattle.sy_wire.specs.Frames.{Held}
use Rattle.sy_wire.proofs.Rooms.{length_range, range_after}
use Rattle.sy_wire.specs.Characters.{IsDigit}
use Rattle.sy_relp.specs.Frames.{Frame, IsLetter, frame}
use Rattle.sy_relp.specs.Reading.{FrameAt, Gives}
use Rattle.sy_relp.proofs.Lists.{all_append}

-- the first i bytes are the digits of n, without leading zeros
abbrev pub HasNumber : List ℕ → ℕ → ℕ → Type 0
HasNumber bytes i n = ((i ≡ 0) × (n ≡ 0)) ⊎ ((0 < i) × (n ≤ 999999999) × (take i bytes ≡ decimal n))

-- one more digit
decimal_push : (n d : ℕ) → 0 < n → n < 10000000000 → d < 10 → decimal (n * 10 + d) ≡ decimal n ++ (48 + d) ∷ []
decimal_push n d positive small digit =
    let quotient : (n * 10 + d) / 10 ≡ n = omega arith in
    let rest : (n * 10 + d) % 10 ≡ d = omega arith in
    rw (decimal_step (n * 10 + d) (omega arith) (omega arith), quotient, rest) refl

any_default : (xs : List ℕ) (i b : ℕ) → i < length xs → get_or xs i 0 ≡ b → get_or xs i b ≡ b
any_default [] i b within here = absurd (omega (arith, within))
any_default (x ∷ xs) zero b within here = here
any_default (x ∷ xs) (suc i) b within here = any_default xs i b (omega (arith, within)) here

pub number_more : (bytes : List ℕ) (i n b : ℕ) → i < length bytes → get_or bytes i 0 ≡ b → IsDigit b → (0 < i → n ≢ 0) → n * 10 + (b - 48) ≤ 999999999 → HasNumber bytes i n → HasNumber bytes (i + 1) (n * 10 + (b - 48))
number_more bytes i n b within here digit later most (inl none) =
    let at_start : i ≡ 0 = none.0 in
    let value : n * 10 + (b - 48) ≡ b - 48 = omega (arith, none.1) in
    let glyph : 48 + (b - 48) ≡ b = omega (arith, digit.0) in
    inr (omega arith, most, rw (take_more bytes i 0 within, here, at_start, value, decimal_digit (b - 48) (omega (arith, digit.1)), glyph) refl)
number_more bytes i n b within here digit later most (inr some) =
    let positive : 0 < n = let apart = later some.0 in omega (arith, apart) in
    let glyph : 48 + (b - 48) ≡ b = omega (arith, digit.0) in
    inr (omega arith, most, take_more bytes i b within ∙ ap (λ z. z ++ get_or bytes i b ∷ []) some.2 ∙ ap (λ z. decimal n ++ z ∷ []) (any_default bytes i b within here ∙ sym glyph) ∙ sym (decimal_push n (b - 48) positive (omega (arith, some.1)) (omega (arith, digit.1))))

pub number_text : (bytes : List ℕ) (i n b : ℕ) → i < length bytes → get_or bytes i 0 ≡ b → IsDigit b → (0 < i → n ≢ 0) → HasNumber bytes i n → take (i + 1) bytes ≡ decimal (n * 10 + (b - 48))
number_text bytes i n b within here digit later (inl none) =
    let at_start : i ≡ 0 = none.0 in
    let value : n * 10 + (b - 48) ≡ b - 48 = omega (arith, none.1) in
    let glyph : 48 + (b - 48) ≡ b = omega (arith, digit.0) in
    rw (take_more bytes i 0 within, here, at_start, value, decimal_digit (b - 48) (omega (arith, digit.1)), glyph) refl
number_text bytes i n b within here digit later (inr some) =
    let positive : 0 < n = let apart = later some.0 in omega (arith, apart) in
    let glyph : 48 + (b - 48) ≡ b = omega (arith, digit.0) in
    take_more bytes i b within ∙ ap (λ z. z ++ get_or bytes i b ∷ []) some.2 ∙ ap (λ z. decimal n ++ z ∷ []) (any_default bytes i b within here ∙ sym glyph) ∙ sym (decimal_push n (b - 48) positive (omega (arith, some.1)) (omega (arith, digit.1)))

pub number_ends : (bytes rest : List ℕ) (i n : ℕ) → 0 < i → HasNumber bytes i n → rest ≡ drop i bytes → bytes ≡ decimal n ++ rest
number_ends bytes rest i n later (inl none) e = absurd (omega (arith, none.0, later))
number_ends bytes rest i n later (inr some) e = sym (take-append-drop i bytes) ∙ ap (λ z. z ++ drop i bytes) some.2 ∙ ap (λ z. decimal n ++ z) (sym e)

pub letters_more : (bytes : List ℕ) (i b : ℕ) → i < length bytes → get_or bytes i 0 ≡ b → IsLetter b → AllByRecursion IsLetter (take i bytes) → AllByRecursion IsLetter (take (i + 1) bytes)
letters_more bytes i b within here letter all = rw (take_more bytes i 0 within, here) (all_append IsLetter (take i bytes) (b ∷ []) all (letter, tt))

-- what stands behind a frame in a part of the room
pub range_behind : (xs : List ℕ) (at end : ℕ) (front behind : List ℕ) → at ≤ end → end ≤ length xs → slice_range xs at end ≡ front ++ behind → slice_range xs (end - length behind) end ≡ behind
range_behind xs at end front behind le within is =
    let whole = length_range xs at end within in
    let sizes : length (slice_range xs at end) ≡ length front + length behind = ap length is ∙ length-append front behind in
    let place : at + length front ≡ end - length behind = omega (arith, whole, sizes, le) in
    let inside : at + length front ≤ end = omega (arith, whole, sizes, le) in
    ap (λ k. slice_range xs k end) (sym place) ∙ sym (range_after xs at (length front) end inside) ∙ ap (drop (length front)) is ∙ drop_at front behind (length front) refl

-- the frame at the front of a part of the room was given
pub gives_frame : (old : Held) (xs : List ℕ) (at end : ℕ) (failed : Bool) (f g : Frame) (behind : List ℕ) → at ≤ end → end ≤ length xs → record { left = slice_range xs at end; has_failed = failed } ≡ old → failed ≡ false
    → FrameAt (slice_range xs at end) f behind → g ≡ f → Gives old g (record { left = slice_range xs (end - length behind) end; has_failed = failed })
gives_frame old xs at end failed f g behind le within view good h same = record {
  good = sym (ap (λ (v : Held). v.has_failed) view) ∙ good;
  at = record {
    is_frame = rw same h.is_frame;
    whole = sym (ap (λ (v : Held). v.left) view) ∙ h.whole ∙ ap (λ z. frame f ++ z) (sym (range_behind xs at end (frame f) behind le within h.whole)) ∙ ap (λ k. frame k ++ slice_range xs (end - length behind) end) (sym same);
  };
  stays_good = good;
}
