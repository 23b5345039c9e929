-- Words of digits and the numbers that they write.
use Rattle.std.proofs.Common.{rules, ◌≡◌, ℕ, zero, suc, ◌+◌, ◌*◌, ◌-◌, ◌^◌, ◌<◌, ◌≤◌, ◌==◌, ◌&&◌, not, Bool, true, false, nat_le, if◌then◌else◌, List, [], ◌∷◌, length, get_or, take, Option, Some, None, refl, sym, ap, subst, ◌∙◌, arith, eqb-true, leb-true, leb-false, le-leb}
use Rattle.std.proofs.lemmas.Bool.{lt-leb}
use Rattle.std.specs.Prelude.{IfNone, IfSome}
use Rattle.std.specs.Char.{is_ascii_digit}
use Rattle.std.specs.Fmt.{decimal}
use Rattle.std.specs.List.{list_all}
use Rattle.std.specs.Str.Parse.{digits_value}
use Rattle.std.proofs.lemmas.Fmt.{decimal-digits_value, decimal_digit, digits_decimal, digits_value-decimal, first_decimal}
use Rattle.std.proofs.lemmas.Int.Digits.{digits_value_more}
use Rattle.std.proofs.lemmas.Str.{digit_value_digit}
use Rattle.std.proofs.lemmas.Str.Parse.{IsNumeralModel, digits_value-take-le, digits_value_short, numerals_by_value}
use Rattle.sy_wire.specs.Numbers.{is_numeral, number_up_to}

abbrev pub AllDigit : List ℕ → Type 0
AllDigit ds = list_all is_ascii_digit ds ≡ true

pub own : IsNumeralModel AllDigit (digits_value 10)
own = numerals_by_value AllDigit (search rules)

some_bytes : (w : List ℕ) → (length w == 0) ≡ false → 0 < length w
some_bytes [] h = cc
some_bytes (b ∷ w) h = omega arith

not_empty : (w : List ℕ) → 0 < length w → (length w == 0) ≡ false
not_empty w some = by (length w == 0) refl
  where
    by : (b : Bool) → (length w == 0) ≡ b → (length w == 0) ≡ false
    by false e = e
    by true e = absurd (omega (arith, some, eqb-true (length w) 0 e))

-- what a numeral is
pub numeral_is : (w : List ℕ) → is_numeral w ≡ true → (0 < length w) × AllDigit w
numeral_is w e = by (length w == 0) (list_all is_ascii_digit w) refl refl e
  where
    by : (a b : Bool) → (length w == 0) ≡ a → list_all is_ascii_digit w ≡ b → (not a && b) ≡ true → (0 < length w) × AllDigit w
    by false true empty all e = (some_bytes w empty, all)
    by false false empty all e = cc
    by true b empty all e = cc

pub is_one : (w : List ℕ) → 0 < length w → AllDigit w → is_numeral w ≡ true
is_one w some all = rw (not_empty w some, all) refl

-- one digit more, in a loop over digits
pub value_more : (ds : List ℕ) (i n d : ℕ) → i < length ds → 48 ≤ get_or ds i 0 → get_or ds i 0 ≤ 57 → n ≡ digits_value 10 (take i ds)
    → d ≡ get_or ds i 0 - 48 → n * 10 + d ≡ digits_value 10 (take (i + 1) ds)
value_more ds i n d within low high value digit = omega (arith, digits_value_more 10 ds i within, digit_value_digit (get_or ds i 0) (low, high), value, digit)

-- a number above the most stays one when digits follow
pub too_large : (most : ℕ) (ds : List ℕ) (i : ℕ) → most < digits_value 10 (take i ds) → number_up_to most ds ≡ None
too_large most ds i above =
    let large : nat_le (digits_value 10 ds) most ≡ false = lt-leb (digits_value 10 ds) most (omega (arith, above, digits_value-take-le 10 ds i (omega arith))) in
    rw large (none (is_numeral ds))
  where
    none : (b : Bool) → (if b && false then Some (digits_value 10 ds) else None) ≡ None
    none true = refl
    none false = refl

-- where so few digits are no more than the most, only their shape counts
pub fits : (most k : ℕ) (ds : List ℕ) → length ds ≤ k → 10 ^ k ≤ most + 1 → number_up_to most ds ≡ (if is_numeral ds then Some (digits_value 10 ds) else None)
fits most k ds short small = by (is_numeral ds) refl
  where
    by : (b : Bool) → is_numeral ds ≡ b
        → (if b && nat_le (digits_value 10 ds) most then Some (digits_value 10 ds) else None) ≡ (if b then Some (digits_value 10 ds) else None)
    by false e = refl
    by true e =
        let less = digits_value_short own ds k (numeral_is ds e).1 short in
        rw (le-leb (digits_value 10 ds) most (omega (arith, less, small))) refl

-- a number in its one spelling
pub spelt : (w : List ℕ) (most : ℕ) → most < 2 ^ 64 → (get_or w 0 0 ≡ 48 → length w ≤ 1) → IfSome (number_up_to most w) (λ n. (n ≤ most) × (w ≡ decimal n))
spelt w most fit first = by (is_numeral w) (nat_le (digits_value 10 w) most) refl refl
  where
    by : (a b : Bool) → is_numeral w ≡ a → nat_le (digits_value 10 w) most ≡ b → IfSome (if a && b then Some (digits_value 10 w) else None) (λ n. (n ≤ most) × (w ≡ decimal n))
    by true true is small =
        let low = leb-true (digits_value 10 w) most small in
        let numeral = numeral_is w is in
        let one : get_or w 0 0 ≡ 48 → length w ≡ 1 = λ zero. omega (arith, first zero, numeral.0) in
        (low, sym (decimal-digits_value own w numeral.1 numeral.0 one (omega (arith, low, fit))))
    by true false is small = tt
    by false b is small = tt

some_digits : (w : List ℕ) (n : ℕ) → n < 2 ^ 64 → w ≡ decimal n → 0 < length w
some_digits w zero small e = rw (e, decimal_digit 0 (omega arith)) (omega arith)
some_digits w (suc n) small e = by w refl
  where
    by : (v : List ℕ) → v ≡ w → 0 < length w
    by [] same = absurd (omega (arith, subst (λ ds. 48 < get_or ds 0 0) (sym e ∙ sym same) (first_decimal (suc n) (omega arith) (omega (arith, small)))))
    by (d ∷ ds) same = subst (λ x. 0 < length x) same (omega arith)

pub no_zero : (w : List ℕ) (n : ℕ) → n < 2 ^ 64 → w ≡ decimal n → get_or w 0 0 ≡ 48 → 1 < length w → ⊥
no_zero w zero small e first long =
    let one : length w ≡ 1 = rw (e, decimal_digit 0 (omega arith)) refl in omega (arith, one, long)
no_zero w (suc n) small e first long = omega (arith, first, subst (λ ds. 48 < get_or ds 0 0) (sym e) (first_decimal (suc n) (omega arith) (omega (arith, small))))

-- what is written is read
pub reads : (w : List ℕ) (most n : ℕ) → most < 2 ^ 64 → n ≤ most → w ≡ decimal n → number_up_to most w ≡ Some n
reads w most n fit small e =
    let less : n < 2 ^ 64 = omega (arith, fit, small) in
    let all : AllDigit w = subst AllDigit (sym e) (digits_decimal own n less) in
    let value : digits_value 10 w ≡ n = ap (digits_value 10) e ∙ digits_value-decimal own n less in
    let low : nat_le (digits_value 10 w) most ≡ true = le-leb (digits_value 10 w) most (omega (arith, value, small)) in
    rw (is_one w (some_digits w n less e) all, low, value) refl

pub unread : (w : List ℕ) (most : ℕ) → most < 2 ^ 64 → IfNone (number_up_to most w) ((n : ℕ) → n ≤ most → w ≡ decimal n → ⊥)
unread w most fit = by (number_up_to most w) refl
  where
    by : (o : Option ℕ) → number_up_to most w ≡ o → IfNone o ((n : ℕ) → n ≤ most → w ≡ decimal n → ⊥)
    by (Some n) e = tt
    by None e = λ n small is. differ n (sym e ∙ reads w most n fit small is)
      where
        differ : (n : ℕ) → None ≡ Some n → ⊥
        differ n e = cc

-- what a reader's answer says
pub read_is : (most n : ℕ) (ds : List ℕ) → number_up_to most ds ≡ Some n → (is_numeral ds ≡ true) × (n ≤ most) × (digits_value 10 ds ≡ n)
read_is most n ds e = by (is_numeral ds) (nat_le (digits_value 10 ds) most) refl refl e
  where
    by : (a b : Bool) → is_numeral ds ≡ a → nat_le (digits_value 10 ds) most ≡ b → (if a && b then Some (digits_value 10 ds) else None) ≡ Some n
        → (is_numeral ds ≡ true) × (n ≤ most) × (digits_value 10 ds ≡ n)
    by true true is small same =
        let value : digits_value 10 ds ≡ n = cc in
        (is, omega (arith, leb-true (digits_value 10 ds) most small, value), value)
    by true false is small same = cc
    by false b is small same = cc

pub unread_is : (most : ℕ) (ds : List ℕ) → number_up_to most ds ≡ None → is_numeral ds ≡ true → most < digits_value 10 ds
unread_is most ds e numeral = by (nat_le (digits_value 10 ds) most) refl (sym (ap (λ a. if a && nat_le (digits_value 10 ds) most then Some (digits_value 10 ds) else None) numeral) ∙ e)
  where
    by : (b : Bool) → nat_le (digits_value 10 ds) most ≡ b → (if true && b then Some (digits_value 10 ds) else None) ≡ None → most < digits_value 10 ds
    by true small same = cc
    by false small same = leb-false (digits_value 10 ds) most small
