-- The numbers of a line's words.
use Rattle.std.proofs.Common.{◌≡◌, ℕ, ◌+◌, ◌^◌, ◌<◌, ◌≤◌, ◌==◌, ◌&&◌, ◌||◌, not, Bool, true, false, nat_le, if◌then◌else◌, List, length, get_or, Option, Some, None, refl, sym, ap, subst, ◌∙◌, arith, eqb-true, leb-true, leb-false, le-leb}
use Rattle.std.specs.Prelude.{IfNone, IfSome}
use Rattle.std.specs.Fmt.{decimal}
use Rattle.std.specs.Str.Parse.{digits_value}
use Rattle.std.proofs.lemmas.Fmt.{length-decimal-le}
use Rattle.sy_wire.specs.Numbers.{is_numeral, number_up_to}
use Rattle.sy_wire.proofs.Numerals.{fits, no_zero, read_is, reads, spelt}
use Rattle.sy_replay.specs.Lines.{is_number, number_of}

-- no zero stands before another digit
abbrev pub no_zero_before : List ℕ → Bool
no_zero_before word = nat_le (length word) 1 || not (get_or word 0 0 == 48)

without_zero : (word : List ℕ) → (get_or word 0 0 ≡ 48 → 1 < length word → ⊥) → no_zero_before word ≡ true
without_zero word none = by (nat_le (length word) 1) refl (get_or word 0 0 == 48) refl
  where
    by : (a : Bool) → nat_le (length word) 1 ≡ a → (b : Bool) → (get_or word 0 0 == 48) ≡ b → (a || not b) ≡ true
    by true short b first = refl
    by false short false first = refl
    by false short true first = absurd (none (eqb-true (get_or word 0 0) 48 first) (leb-false (length word) 1 short))

short_or_none : (word : List ℕ) → no_zero_before word ≡ true → get_or word 0 0 ≡ 48 → length word ≤ 1
short_or_none word e zero = by (nat_le (length word) 1) refl (subst (λ d. (nat_le (length word) 1 || not (d == 48)) ≡ true) zero e)
  where
    by : (a : Bool) → nat_le (length word) 1 ≡ a → (a || not (48 == 48)) ≡ true → length word ≤ 1
    by true short e = leb-true (length word) 1 short
    by false short e = cc

-- a number of 10 digits in its one spelling
written : (word : List ℕ) (n : ℕ) → n ≤ 9999999999 → word ≡ decimal n → (is_number word ≡ true) × (digits_value 10 word ≡ n)
written word n small e =
    let less : n < 2 ^ 64 = omega (arith, small) in
    let read = read_is 9999999999 n word (reads word 9999999999 n (omega arith) small e) in
    let short : length word ≤ 10 = rw e (length-decimal-le 10 n (omega arith) (omega (arith, small)) less) in
    (rw (read.0, le-leb (length word) 10 short) (without_zero word (no_zero word n less e)), read.2)

pub number_is : (word : List ℕ) (o : Option ℕ) → IfSome o (λ n. (n ≤ 9999999999) × (word ≡ decimal n))
    → IfNone o ((n : ℕ) → n ≤ 9999999999 → word ≡ decimal n → ⊥) → o ≡ number_of word
unfolding number_of
number_is word (Some n) some none =
    let all = written word n some.0 some.1 in
    rw (all.0, all.1) refl
number_is word None some none = by (is_numeral word) refl (nat_le (length word) 10) refl (no_zero_before word) refl
  where
    by : (a : Bool) → is_numeral word ≡ a → (b : Bool) → nat_le (length word) 10 ≡ b → (c : Bool) → no_zero_before word ≡ c
        → None ≡ (if a && (b && c) then Some (digits_value 10 word) else None)
    by false is b short c first = refl
    by true is false short c first = refl
    by true is true short false first = refl
    by true is true short true first =
        let read : number_up_to 9999999999 word ≡ Some (digits_value 10 word) =
        fits 9999999999 10 word (leb-true (length word) 10 short) (omega arith) ∙ ap (λ b. if b then Some (digits_value 10 word) else None) is in
        let found = subst (λ o. IfSome o (λ n. (n ≤ 9999999999) × (word ≡ decimal n))) read (spelt word 9999999999 (omega arith) (short_or_none word first)) in
        absurd (none (digits_value 10 word) found.0 found.1)
