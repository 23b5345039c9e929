-- Why a part of a frame isn't there.
use Rattle.std.proofs.Common.{◌≡◌, ◌≢◌, ℕ, zero, suc, ◌+◌, ◌*◌, ◌-◌, ◌<◌, ◌≤◌, ◌⊎◌, inl, inr, List, [], ◌∷◌, ◌++◌, length, get_or, take, drop, refl, sym, ap, ◌∙◌, arith}
use Rattle.std.specs.List.{AllByRecursion}
use Rattle.std.specs.Fmt.{decimal}
use Rattle.std.proofs.lemmas.Fmt.{decimal_digit, decimal_nonempty, first_decimal}
use Rattle.std.proofs.lemmas.List.{append_assoc, drop_more, length-append, take-append-drop, take_all}
use Rattle.sy_wire.specs.Characters.{IsDigit}
use Rattle.sy_relp.specs.Faults.{IsBadNumber, IsLong, NeverCommand, NeverLength, length_end}
use Rattle.sy_relp.specs.Frames.{IsLetter}
use Rattle.sy_relp.specs.internal.Parts.{CommandGoesOn, EndsDigits, LengthGoesOn, NeverNumber, NotGreat, TxnrGoesOn}
use Rattle.sy_relp.proofs.Digits.{begins_digit, first_of, front_digits, space_is_none, value_le}
use Rattle.sy_relp.proofs.Goings.{noughts, length_noughts}
use Rattle.sy_relp.proofs.NoFrames.{digits_wide, no_digit_here, no_leading_zero, run_long, run_stops}
use Rattle.sy_relp.proofs.Numbers.{HasNumber}
use Rattle.sy_relp.proofs.OneFrame.{digits_of, one_number}
use Rattle.sy_relp.proofs.Whole.{end_is_no_digit, get_front, take_front}

-- ---- numbers
has_wide : (bytes more : List ℕ) (i v : ℕ) → i ≤ length bytes → HasNumber bytes i v → HasNumber (bytes ++ more) i v
has_wide bytes more i v within (inl h) = inl h
has_wide bytes more i v within (inr h) = inr (h.0, h.1, take_front i bytes more within ∙ h.2)

wide : (bytes more : List ℕ) (i : ℕ) → i < length bytes → i < length (bytes ++ more)
wide bytes more i within = omega (arith, within, length-append bytes more)

pub never_first : (max : ℕ) (bytes : List ℕ) (i : ℕ) → max ≤ 999999999 → i < length bytes → i ≡ 0 → (IsDigit (get_or bytes i 0) → ⊥) → NeverNumber max bytes
never_first max bytes i small within first not n c more rest le nc e =
    no_digit_here max (bytes ++ more) i small (wide bytes more i within) first (λ d. not (rw (get_front i 0 bytes more within) at d)) n c rest le nc e

pub never_zero : (max : ℕ) (bytes : List ℕ) (i v : ℕ) → max ≤ 999999999 → 0 < i → v ≡ 0 → i < length bytes → HasNumber bytes i v → IsDigit (get_or bytes i 0) → NeverNumber max bytes
never_zero max bytes i v small later nought within has digit n c more rest le nc e =
    no_leading_zero max (bytes ++ more) i v small later nought (wide bytes more i within) (has_wide bytes more i v (omega (arith, within)) has)
    (rw (get_front i 0 bytes more within) digit) n c rest le nc e

pub not_great_first : (max : ℕ) (bytes : List ℕ) (i : ℕ) → i < length bytes → i ≡ 0 → (IsDigit (get_or bytes i 0) → ⊥) → NotGreat max bytes
not_great_first max [] i within first not n rest above bound e = absurd (omega (arith, within))
not_great_first max (b ∷ bytes) zero within first not n rest above bound e = not (begins_digit (decimal n) b bytes rest (digits_of n bound) (decimal_nonempty n (omega (arith, bound))) e)
not_great_first max (b ∷ bytes) (suc i) within first not n rest above bound e = absurd (omega (arith, first))

pub not_great_zero : (max : ℕ) (bytes : List ℕ) (i v : ℕ) → 0 < i → v ≡ 0 → HasNumber bytes i v → NotGreat max bytes
not_great_zero max bytes i v later nought (inl nil) n rest above bound e = absurd (omega (arith, later, nil.0))
not_great_zero max bytes i v later nought (inr some) n rest above bound e =
    let front : take i bytes ≡ 48 ∷ [] = some.2 ∙ ap decimal nought ∙ decimal_digit 0 (omega arith) in
    let here : decimal n ++ rest ≡ 48 ∷ drop i bytes = sym e ∙ sym (take-append-drop i bytes) ∙ ap (λ z. z ++ drop i bytes) front in
    let first = first_of (decimal n) rest 48 (drop i bytes) (digits_of n bound) (decimal_nonempty n (omega (arith, bound))) (first_decimal n (omega (arith, above)) (omega (arith, bound))) here in
    omega (arith, first.1)

-- a number that is read makes no more
pub not_great_read : (max v : ℕ) (bytes rest : List ℕ) → v ≤ max → max ≤ 999999999 → EndsDigits rest → bytes ≡ decimal v ++ rest → NotGreat max bytes
not_great_read max v bytes rest le small ends is n behind above bound e =
    let parts : decimal v ++ ends.0 ∷ ends.1 ≡ decimal n ++ behind = ap (λ z. decimal v ++ z) (sym ends.2) ∙ sym is ∙ e in
    let inside = front_digits (decimal v) (decimal n) ends.0 ends.1 behind (digits_of n bound) ends.3 parts in
    let less = value_le n v inside.0 (omega (arith, bound)) (omega (arith, le, small)) inside.1 in
    omega (arith, less, above, le)

pub great : (max : ℕ) (bytes : List ℕ) (k v : ℕ) → max < v → v ≤ max * 10 + 9 → take k bytes ≡ decimal v → (n : ℕ) × (rest : List ℕ) × (max < n) × (n ≤ max * 10 + 9) × (bytes ≡ decimal n ++ rest)
great max bytes k v above bound front = (v, drop k bytes, above, bound, sym (take-append-drop k bytes) ∙ ap (λ z. z ++ drop k bytes) front)

pub all_digits : (max : ℕ) (bytes : List ℕ) (i v : ℕ) → length bytes ≤ i → i ≤ length bytes → v ≤ max → HasNumber bytes i v → (bytes ≡ []) ⊎ ((n : ℕ) × (n ≤ max) × (bytes ≡ decimal n))
all_digits max [] i v all within most has = inl refl
all_digits max (b ∷ bytes) i v all within most (inl nil) = absurd (omega (arith, all, nil.0))
all_digits max (b ∷ bytes) i v all within most (inr some) = inr (v, most, sym (take_all i (b ∷ bytes) all) ∙ some.2)

-- digits that make too much are no number, however they go on
pub never_great : (max n : ℕ) (bytes rest : List ℕ) → max ≤ 999999999 → max < n → n ≤ max * 10 + 9 → bytes ≡ decimal n ++ rest → NeverNumber max bytes
never_great max n bytes rest small above bound is m c more behind le nc e =
    let parts : decimal m ++ c ∷ behind ≡ decimal n ++ (rest ++ more) = sym e ∙ ap (λ z. z ++ more) is ∙ append_assoc (decimal n) rest more in
    let inside = front_digits (decimal m) (decimal n) c behind (rest ++ more) (digits_wide n (omega (arith, bound, small))) nc parts in
    let less = value_le n m inside.0 (omega (arith, bound, small)) (omega (arith, le, small)) inside.1 in
    omega (arith, less, above, le)

-- ---- the number of a transaction
some_byte : (b : ℕ) → b ∷ [] ≢ []
some_byte b e = cc

pub txnr_short : (bytes : List ℕ) → (bytes ≡ []) ⊎ ((n : ℕ) × (n ≤ 999999999) × (bytes ≡ decimal n)) → TxnrGoesOn bytes
txnr_short bytes (inl none) = (0, decimal 0 ++ 32 ∷ [], omega arith, (λ e. let size = ap length e in omega (arith, size, length-append (decimal 0) (32 ∷ []))), ap (λ z. z ++ (decimal 0 ++ 32 ∷ [])) none)
txnr_short bytes (inr some) = (some.0, 32 ∷ [], some.1, some_byte 32, ap (λ z. z ++ 32 ∷ []) some.2)

pub bad_number : (bytes : List ℕ) → NeverNumber 999999999 bytes → IsBadNumber bytes
bad_number bytes never n more behind le e = never n 32 more behind le space_is_none e

pub bad_space : (bytes rest : List ℕ) (n : ℕ) → bytes ≡ decimal n ++ rest → n ≤ 999999999 → EndsDigits rest → ((behind : List ℕ) → rest ≡ 32 ∷ behind → ⊥) → IsBadNumber bytes
bad_space bytes rest n is most ends refutes m more behind le e =
    let whole : decimal n ++ ends.0 ∷ (ends.1 ++ more) ≡ decimal m ++ 32 ∷ behind =
    sym (append_assoc (decimal n) (ends.0 ∷ ends.1) more) ∙ ap (λ z. (decimal n ++ z) ++ more) (sym ends.2) ∙ ap (λ z. z ++ more) (sym is) ∙ e in
    let parts = one_number n m ends.0 32 (ends.1 ++ more) behind most le ends.3 space_is_none whole in
    refutes ends.1 (ends.2 ∙ ap (λ c. c ∷ ends.1) parts.1)

-- ---- commands
pub never_letters : (bytes : List ℕ) (i : ℕ) → AllByRecursion IsLetter (take i bytes) → i < length bytes → (IsLetter (get_or bytes i 0) → ⊥) → (i ≡ 0) ⊎ (get_or bytes i 0 ≢ 32) → NeverCommand bytes
never_letters bytes i all within not why word more behind command e =
    let s = run_stops (bytes ++ more) word behind i (rw (take_front i bytes more (omega (arith, within))) all) (wide bytes more i within) (λ l. not (rw (get_front i 0 bytes more within) at l)) command.letters e in
    elim why [
      | inl none ↦ omega (arith, none, s.0, command.some)
      | inr other ↦ other (sym (get_front i 0 bytes more within) ∙ s.1)
    ]

pub never_long : (bytes : List ℕ) (n : ℕ) → n ≤ length bytes → 32 < n → AllByRecursion IsLetter (take n bytes) → NeverCommand bytes
never_long bytes n within above all word more behind command e =
    let long = run_long (bytes ++ more) word behind n (omega (arith, within, length-append bytes more)) (rw (take_front n bytes more within) all) e in
    omega (arith, long, above, command.short)

pub command_short : (bytes : List ℕ) (i : ℕ) → length bytes ≤ i → i ≤ 32 → AllByRecursion IsLetter (take i bytes) → CommandGoesOn bytes
command_short [] i past short all = (97 ∷ [], 97 ∷ 32 ∷ [], record { some = omega arith; short = omega arith; letters = (inr (omega arith, omega arith), tt) }, (λ e. cc), refl)
command_short (b ∷ bytes) i past short all =
    let whole : take i (b ∷ bytes) ≡ b ∷ bytes = take_all i (b ∷ bytes) past in
    (b ∷ bytes, 32 ∷ [], record { some = omega arith; short = omega (arith, past, short); letters = rw whole at all }, some_byte 32, refl)

pub space_stands : (bytes back : List ℕ) (i : ℕ) → i < length bytes → get_or bytes i 0 ≡ 32 → back ≡ drop i bytes → ((rest : List ℕ) → back ≡ 32 ∷ rest → ⊥) → ⊥
space_stands bytes back i within is front refutes = refutes (drop (i + 1) bytes) (front ∙ drop_more bytes i 0 within ∙ ap (λ b. b ∷ drop (i + 1) bytes) is)

-- ---- lengths
pub length_short : (bytes : List ℕ) → (bytes ≡ []) ⊎ ((n : ℕ) × (n ≤ 65536) × (bytes ≡ decimal n)) → LengthGoesOn bytes
length_short bytes (inl none) = (0, decimal 0 ++ 10 ∷ [], omega arith, (λ e. let size = ap length e in omega (arith, size, length-append (decimal 0) (10 ∷ []))), ap (λ z. z ++ (decimal 0 ++ 10 ∷ [])) none)
length_short bytes (inr some) = (some.0, length_end some.0 ∷ [], some.1, some_byte (length_end some.0), ap (λ z. z ++ length_end some.0 ∷ []) some.2)

pub bad_length : (bytes : List ℕ) → NeverNumber 65536 bytes → NeverLength bytes
bad_length bytes never n more behind le e = never n (length_end n) more behind le (end_is_no_digit n) e

pub not_long : (bytes : List ℕ) → NotGreat 65536 bytes → IsLong bytes → ⊥
not_long bytes not long = not long.0 long.1 long.2 (omega (arith, long.3)) long.4

pub is_long : (bytes : List ℕ) → (n : ℕ) × (rest : List ℕ) × (65536 < n) × (n ≤ 65536 * 10 + 9) × (bytes ≡ decimal n ++ rest) → IsLong bytes
is_long bytes g = (g.0, g.1, g.2, omega (arith, g.3), g.4)

pub bad_end : (bytes rest : List ℕ) (n : ℕ) → bytes ≡ decimal n ++ rest → n ≤ 65536 → EndsDigits rest → ((behind : List ℕ) → rest ≡ length_end n ∷ behind → ⊥) → NeverLength bytes
bad_end bytes rest n is most ends refutes m more behind le e =
    let whole : decimal n ++ ends.0 ∷ (ends.1 ++ more) ≡ decimal m ++ length_end m ∷ behind =
    sym (append_assoc (decimal n) (ends.0 ∷ ends.1) more) ∙ ap (λ z. (decimal n ++ z) ++ more) (sym ends.2) ∙ ap (λ z. z ++ more) (sym is) ∙ e in
    let parts = one_number n m ends.0 (length_end m) (ends.1 ++ more) behind (omega (arith, most)) (omega (arith, le)) ends.3 (end_is_no_digit m) whole in
    refutes ends.1 (ends.2 ∙ ap (λ c. c ∷ ends.1) (parts.1 ∙ sym (ap length_end parts.0)))

-- ---- content
pub content_short : (bytes : List ℕ) (len : ℕ) → length bytes < len → (content more : List ℕ) × (length content ≡ len) × (0 < len) × (more ≢ []) × (bytes ++ more ≡ content ++ 10 ∷ [])
content_short bytes len less =
    let rest = noughts (len - length bytes) in (
      bytes ++ rest,
      rest ++ 10 ∷ [],
      length-append bytes rest ∙ (let size : length bytes + length rest ≡ len = omega (arith, less, length_noughts (len - length bytes)) in size),
      omega (arith, less),
      (λ e. let size = ap length e in omega (arith, size, length-append rest (10 ∷ []))),
      sym (append_assoc bytes rest (10 ∷ [])),
    )

pub all_but_the_end : (bytes : List ℕ) (len : ℕ) → 0 < len → len ≤ length bytes → length bytes ≤ len → (content more : List ℕ) × (length content ≡ len) × (0 < len) × (more ≢ []) × (bytes ++ more ≡ content ++ 10 ∷ [])
all_but_the_end bytes len some enough within = (bytes, 10 ∷ [], (let size : length bytes ≡ len = omega (arith, enough, within) in size), some, some_byte 10, refl)
