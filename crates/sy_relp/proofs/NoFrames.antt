-- Where no number and no command stands.
use Rattle.std.proofs.Common.{◌≡◌, ℕ, zero, suc, ◌+◌, ◌<◌, ◌≤◌, inl, inr, List, [], ◌∷◌, ◌++◌, length, get_or, take, drop, refl, sym, ap, ◌∙◌, arith}
use Rattle.std.specs.List.{AllByRecursion}
use Rattle.std.specs.Fmt.{decimal}
use Rattle.std.proofs.lemmas.Fmt.{decimal_digit, decimal_is_IsNumeral, decimal_nonempty, first_decimal}
use Rattle.std.proofs.lemmas.List.{append_assoc, drop_more, length-append, take-append-drop, take_all}
use Rattle.sy_wire.specs.Characters.{IsDigit}
use Rattle.sy_relp.specs.Frames.{Frame, IsFrame, IsLetter, NoFrame, frame, stream}
use Rattle.sy_relp.proofs.Digits.{Digits, digits_from_all, front_digits, first_of, more, only_digits, value_le}
use Rattle.sy_relp.proofs.Numbers.{HasNumber}
use Rattle.sy_relp.proofs.OneFrame.{digits_of, one_frame}

-- what the parts of a frame are not
abbrev pub NoNumber : ℕ → List ℕ → Type 0
NoNumber max bytes = (n c : ℕ) (rest : List ℕ) → n ≤ max → (IsDigit c → ⊥) → bytes ≡ decimal n ++ c ∷ rest → ⊥

-- the bytes by a place in them
pub at_byte : (bytes : List ℕ) (i : ℕ) → i < length bytes → bytes ≡ take i bytes ++ get_or bytes i 0 ∷ drop (i + 1) bytes
at_byte bytes i within = sym (take-append-drop i bytes) ∙ ap (λ z. take i bytes ++ z) (drop_more bytes i 0 within)

starts_digit : (ds : List ℕ) (b c : ℕ) (bytes rest : List ℕ) → Digits ds → 0 < length ds → b ∷ bytes ≡ ds ++ c ∷ rest → IsDigit b
starts_digit [] b c bytes rest all some e = absurd (omega (arith, some))
starts_digit (d ∷ ds) b c bytes rest (more p ps) some e = let same : d ≡ b = cc in rw (← same) p

-- the first byte is no digit
pub no_digit_first : (max : ℕ) (bytes : List ℕ) → max ≤ 999999999 → 0 < length bytes → (IsDigit (get_or bytes 0 0) → ⊥) → NoNumber max bytes
no_digit_first max [] small some not n c rest le nc e = absurd (omega (arith, some))
no_digit_first max (b ∷ bytes) small some not n c rest le nc e =
    not (starts_digit (decimal n) b c bytes rest (digits_of n (omega (arith, le, small))) (decimal_nonempty n (omega (arith, le, small))) e)

-- all bytes are digits
pub no_end_of_digits : (max : ℕ) (bytes : List ℕ) (i v : ℕ) → max ≤ 999999999 → length bytes ≤ i → HasNumber bytes i v → i ≤ length bytes → NoNumber max bytes
no_end_of_digits max bytes i v small all (inl nil) within n c rest le nc e =
    let size = ap length e in
    absurd (omega (arith, all, nil.0, size, length-append (decimal n) (c ∷ rest)))
no_end_of_digits max bytes i v small all (inr some) within n c rest le nc e =
    let whole : bytes ≡ decimal v = sym (take_all i bytes all) ∙ some.2 in
    only_digits (decimal v) (decimal n) c rest (digits_of v (omega (arith, some.1))) nc (sym whole ∙ e)

pub digits_wide : (n : ℕ) → n < 100000000000 → Digits (decimal n)
digits_wide n small = let numeral = decimal_is_IsNumeral n (omega arith) in digits_from_all (decimal n) numeral.0.1

-- a number that begins with a nought has no other digit
begins_zero : (n c d : ℕ) (xs rest : List ℕ) → n < 10000000000 → (IsDigit c → ⊥) → IsDigit d → 48 ∷ (d ∷ xs) ≡ decimal n ++ c ∷ rest → ⊥
begins_zero zero c d xs rest small nc digit e =
    let plain : 48 ∷ (d ∷ xs) ≡ 48 ∷ (c ∷ rest) = e ∙ ap (λ z. z ++ c ∷ rest) (decimal_digit 0 (omega arith)) in
    let same : d ≡ c = cc in
    nc (rw (← same) digit)
begins_zero (suc n) c d xs rest small nc digit e =
    let first = first_of (decimal (suc n)) (c ∷ rest) 48 (d ∷ xs) (digits_of (suc n) small) (decimal_nonempty (suc n) (omega (arith, small))) (first_decimal (suc n) (omega arith) (omega (arith, small))) (sym e) in
    omega (arith, first.1)

-- a digit behind a nought
pub no_leading_zero : (max : ℕ) (bytes : List ℕ) (i v : ℕ) → max ≤ 999999999 → 0 < i → v ≡ 0 → i < length bytes → HasNumber bytes i v → IsDigit (get_or bytes i 0) → NoNumber max bytes
no_leading_zero max bytes i v small later nought within (inl nil) digit n c rest le nc e = absurd (omega (arith, later, nil.0))
no_leading_zero max bytes i v small later nought within (inr some) digit n c rest le nc e =
    let front : take i bytes ≡ 48 ∷ [] = some.2 ∙ ap decimal nought ∙ decimal_digit 0 (omega arith) in
    let here : 48 ∷ (get_or bytes i 0 ∷ drop (i + 1) bytes) ≡ decimal n ++ c ∷ rest = ap (λ z. z ++ get_or bytes i 0 ∷ drop (i + 1) bytes) (sym front) ∙ sym (at_byte bytes i within) ∙ e in
    begins_zero n c (get_or bytes i 0) (drop (i + 1) bytes) rest (omega (arith, le, small)) nc digit here

-- too many digits, or too great
pub no_great_number : (max : ℕ) (bytes : List ℕ) (k v : ℕ) → max ≤ 999999999 → max < v → v < 100000000000 → take k bytes ≡ decimal v → NoNumber max bytes
no_great_number max bytes k v small above bound front n c rest le nc e =
    let parts : decimal n ++ c ∷ rest ≡ decimal v ++ drop k bytes = sym e ∙ sym (take-append-drop k bytes) ∙ ap (λ z. z ++ drop k bytes) front in
    let inside = front_digits (decimal n) (decimal v) c rest (drop k bytes) (digits_wide v bound) nc parts in
    let less = value_le v n inside.0 bound (omega (arith, le, small)) inside.1 in
    omega (arith, less, above, le)

pub no_digit_here : (max : ℕ) (bytes : List ℕ) (i : ℕ) → max ≤ 999999999 → i < length bytes → i ≡ 0 → (IsDigit (get_or bytes i 0) → ⊥) → NoNumber max bytes
no_digit_here max bytes zero small within first not = no_digit_first max bytes small within not
no_digit_here max bytes (suc i) small within first not = absurd (omega (arith, first))

-- ---- words
space_letter : IsLetter 32 → ⊥
space_letter (inl h) = omega (arith, h.0)
space_letter (inr h) = omega (arith, h.0)

-- the first byte that is no letter
pub run_stops : (bytes word rest : List ℕ) (i : ℕ) → AllByRecursion IsLetter (take i bytes) → i < length bytes → (IsLetter (get_or bytes i 0) → ⊥) → AllByRecursion IsLetter word → bytes ≡ word ++ 32 ∷ rest → (length word ≡ i) × (get_or bytes i 0 ≡ 32)
run_stops [] word rest i all within not letters e = absurd (omega (arith, within))
run_stops (b ∷ bytes) [] rest zero all within not letters e = (refl, cc)
run_stops (b ∷ bytes) (w ∷ word) rest zero all within not letters e = let same : b ≡ w = cc in absurd (not (rw same letters.0))
run_stops (b ∷ bytes) [] rest (suc i) all within not letters e = let same : b ≡ 32 = cc in absurd (space_letter (rw (← same) all.0))
run_stops (b ∷ bytes) (w ∷ word) rest (suc i) all within not letters e =
    let more : bytes ≡ word ++ 32 ∷ rest = cc in
    let inner = run_stops bytes word rest i all.1 (omega (arith, within)) not letters.1 more in
    (ap suc inner.0, inner.1)

-- letters all stand in the word
pub run_long : (bytes word rest : List ℕ) (n : ℕ) → n ≤ length bytes → AllByRecursion IsLetter (take n bytes) → bytes ≡ word ++ 32 ∷ rest → n ≤ length word
run_long bytes word rest zero within all e = omega arith
run_long [] word rest (suc n) within all e = absurd (omega (arith, within))
run_long (b ∷ bytes) [] rest (suc n) within all e = let same : b ≡ 32 = cc in absurd (space_letter (rw (← same) all.0))
run_long (b ∷ bytes) (w ∷ word) rest (suc n) within all e =
    let more : bytes ≡ word ++ 32 ∷ rest = cc in
    let inner = run_long bytes word rest n (omega (arith, within)) all.1 more in
    omega (arith, inner)

pub space_stands : (bytes back : List ℕ) (i : ℕ) → i < length bytes → get_or bytes i 0 ≡ 32 → back ≡ drop i bytes → ((rest : List ℕ) → back ≡ 32 ∷ rest → ⊥) → ⊥
space_stands bytes back i within is front refutes = refutes (drop (i + 1) bytes) (front ∙ drop_more bytes i 0 within ∙ ap (λ b. b ∷ drop (i + 1) bytes) is)

-- the frames of a stream are one, where none stands in what is left
pub one_stream : (fs gs : List Frame) (x y : List ℕ) → AllByRecursion IsFrame fs → AllByRecursion IsFrame gs → NoFrame x → NoFrame y → stream fs ++ x ≡ stream gs ++ y → (fs ≡ gs) × (x ≡ y)
one_stream [] [] x y p q nx ny e = (refl, e)
one_stream [] (g ∷ gs) x y p q nx ny e = absurd (nx g (stream gs ++ y) q.0 (e ∙ append_assoc (frame g) (stream gs) y))
one_stream (f ∷ fs) [] x y p q nx ny e = absurd (ny f (stream fs ++ x) p.0 (sym e ∙ append_assoc (frame f) (stream fs) x))
one_stream (f ∷ fs) (g ∷ gs) x y p q nx ny e =
    let fronts = one_frame f g (stream fs ++ x) (stream gs ++ y) p.0 q.0 (sym (append_assoc (frame f) (stream fs) x) ∙ e ∙ append_assoc (frame g) (stream gs) y) in
    let rests = one_stream fs gs x y p.1 q.1 nx ny fronts.1 in
    (let head : f ≡ g = fronts.0 in let tail : fs ≡ gs = rests.0 in cc, rests.1)
