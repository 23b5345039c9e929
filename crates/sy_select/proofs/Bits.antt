-- Severity sets bit by bit.
use Rattle.std.proofs.Common.{◌≡◌, ℕ, zero, suc, ◌+◌, ◌-◌, ◌*◌, ◌^◌, ◌<◌, min, max, Bool, true, false, not, if◌then◌else◌, ◌==◌, nat_lt, inl, inr, refl, sym, arith, eq-eqb, bit_and, bit_or}
use Rattle.std.specs.Int.{bit_at, w8}
use Rattle.std.specs.Int.Bits.{and_lt}
use Rattle.std.proofs.lemmas.Nat.{or_lt, pow_pos}
use Rattle.std.proofs.lemmas.Bool.{cases_eq, cases_lt, le-ltb, lt-ltb, ne_eqb}
use Rattle.std.proofs.lemmas.Nat.Bits.{and_pow, bit_at-lt, bit_at-pow_other, bit_at-pow_same, bit_at_and, bit_at_not, bit_at_ones, bit_at_ones_above, bit_at_or}
use Rattle.bitflags.specs.Sets.{without}
use Rattle.sy_select.specs.internal.Masks.{has_bit}

one_times : (b p : ℕ) → b < 2 → 0 < p → (b * p == p) ≡ (b == 1)
one_times b p small some =
    elim (cases_eq b 1) [
      | inl e ↦ let same : b * p ≡ p = rw e (grind arith) in rw (eq-eqb (b * p) p same, eq-eqb b 1 e) refl
      | inr n ↦
          let none : b ≡ 0 = omega arith in
          let times : b * p ≡ 0 = rw none (grind arith) in
          rw (ne_eqb (b * p) p (omega arith), ne_eqb b 1 n) refl
    ]

-- a set has the flag of a severity
pub has_flag : (n k : ℕ) → (bit_and n (2 ^ k) == 2 ^ k) ≡ has_bit n k
has_flag n k = rw (and_pow n k) (one_times (bit_at n k) (2 ^ k) (bit_at-lt n k) (pow_pos k))

or_test : (a b : ℕ) → a < 2 → b < 2 → (max a b == 1) ≡ (if b == 1 then true else (a == 1))
or_test zero zero p q = refl
or_test zero (suc zero) p q = refl
or_test (suc zero) zero p q = refl
or_test (suc zero) (suc zero) p q = refl
or_test (suc (suc a)) b p q = absurd (omega arith)
or_test a (suc (suc b)) p q = absurd (omega arith)

without_test : (a b : ℕ) → a < 2 → b < 2 → (min a (1 - b) == 1) ≡ (if b == 1 then false else (a == 1))
without_test zero zero p q = refl
without_test zero (suc zero) p q = refl
without_test (suc zero) zero p q = refl
without_test (suc zero) (suc zero) p q = refl
without_test (suc (suc a)) b p q = absurd (omega arith)
without_test a (suc (suc b)) p q = absurd (omega arith)

pub added : (old mask new s : ℕ) (takes : Bool) → takes ≡ false → new ≡ bit_or old mask → has_bit new s ≡ (if has_bit mask s then not takes else has_bit old s)
added old mask new s takes t e = rw (e, t, bit_at_or old mask s) (or_test (bit_at old s) (bit_at mask s) (bit_at-lt old s) (bit_at-lt mask s))

pub taken : (old mask new s : ℕ) (takes : Bool) → takes ≡ true → mask < 2 ^ 8 → s < 8 → new ≡ without 8 old mask → has_bit new s ≡ (if has_bit mask s then not takes else has_bit old s)
taken old mask new s takes t small within e =
    rw (e, t, bit_at_and old (2 ^ 8 - 1 - mask) s, bit_at_not w8 mask s small within) (without_test (bit_at old s) (bit_at mask s) (bit_at-lt old s) (bit_at-lt mask s))

pub only_one : (mask n s : ℕ) → mask ≡ 2 ^ n → has_bit mask s ≡ (n == s)
only_one mask n s e =
    elim (cases_eq s n) [
      | inl same ↦ rw (e, same, bit_at-pow_same n, eq-eqb n n refl) refl
      | inr apart ↦ rw (e, bit_at-pow_other n s apart, ne_eqb n s (λ h. apart (sym h))) refl
    ]

pub ones_up_to : (mask n s : ℕ) → mask ≡ 2 ^ (n + 1) - 1 → has_bit mask s ≡ nat_lt s (n + 1)
ones_up_to mask n s e =
    elim (cases_lt s (n + 1)) [
      | inl below ↦ rw (e, bit_at_ones (n + 1) s below, lt-ltb s (n + 1) below) refl
      | inr above ↦ rw (e, bit_at_ones_above (n + 1) s above, le-ltb s (n + 1) above) refl
    ]

pub all_ones : (mask s : ℕ) → mask ≡ 255 → s < 8 → has_bit mask s ≡ true
all_ones mask s e within = rw (e, bit_at_ones 8 s within) refl

-- ---- bytes stay bytes

pub more_is_small : (old mask new : ℕ) → old < 2 ^ 8 → mask < 2 ^ 8 → new ≡ bit_or old mask → new < 2 ^ 8
more_is_small old mask new p q e = rw e (or_lt 8 old mask p q)

pub less_is_small : (old mask new : ℕ) → old < 2 ^ 8 → new ≡ without 8 old mask → new < 2 ^ 8
less_is_small old mask new p e = rw e (and_lt 8 old (2 ^ 8 - 1 - mask) p (omega arith))
