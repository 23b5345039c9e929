-- The members of a set, one after the other.
use Rattle.std.proofs.Common.{◌≡◌, ℕ, ◌<◌, ◌≤◌, ◌+◌, ◌-◌, ◌/◌, ◌%◌, ◌^◌, sym, subst, ap, ◌∙◌, arith, inl, inr}
use Rattle.std.specs.Int.{bit_at, Width, trailing_zeros}
use Rattle.std.proofs.Math.Nat.{div-le_self}
use Rattle.std.proofs.lemmas.Bool.{cases_eq, cases_lt}
use Rattle.std.proofs.lemmas.Nat.{shr-shr}
use Rattle.std.proofs.lemmas.Nat.Bits.{bit_at_above, bit_at-trailing_zeros, bit_at-zero}
use Rattle.sy_flows.specs.Members.{HasNoneFrom, IsNextIn}

-- ---- the next one, as the code finds it

bit_behind : (set from k : ℕ) → bit_at (set / 2 ^ from) k ≡ bit_at set (from + k)
bit_behind set from k = ap (λ x. x % 2) (shr-shr set from k)

pub below_64 : (set k : ℕ) → set < 2 ^ 64 → bit_at set k ≡ 1 → k < 64
below_64 set k fits bit = elim (cases_lt k 64) [
  | inl low ↦ low
  | inr high ↦ (let above = bit_at_above set 64 k fits high in absurd (omega (arith, bit, above)))
]

pub next_is : (set from : ℕ) → set < 2 ^ 64 → 0 < set / 2 ^ from → IsNextIn set from (from + trailing_zeros Width.w64 (set / 2 ^ from))
next_is set from fits some =
    let rest = set / 2 ^ from in
    let less = div-le_self set (2 ^ from) in
    let first = bit_at-trailing_zeros Width.w64 rest some (omega (arith, fits, less)) in
    let member : bit_at set (from + trailing_zeros Width.w64 rest) ≡ 1 = sym (bit_behind set from (trailing_zeros Width.w64 rest)) ∙ first.1 in
    record {
      member = member;
      behind = omega arith;
      small = below_64 set (from + trailing_zeros Width.w64 rest) fits member;
      lowest = λ k low high bit.
          let same : from + (k - from) ≡ k = omega (arith, low) in
          let zero = first.2 (k - from) (omega (arith, low, high)) in
          let is = bit_behind set from (k - from) in
          let here : bit_at set (from + (k - from)) ≡ 1 = subst (λ n. bit_at set n ≡ 1) (sym same) bit in
          omega (arith, zero, is, here);
    }

pub none_behind : (set from : ℕ) → set / 2 ^ from ≡ 0 → HasNoneFrom set from
none_behind set from none k low bit =
    let same : from + (k - from) ≡ k = omega (arith, low) in
    let is = bit_behind set from (k - from) in
    let zero : bit_at (set / 2 ^ from) (k - from) ≡ 0 = ap (λ n. bit_at n (k - from)) none ∙ bit_at-zero (k - from) in
    let here : bit_at set (from + (k - from)) ≡ 1 = subst (λ n. bit_at set n ≡ 1) (sym same) bit in
    omega (arith, zero, is, here)

pub none_at_all : (set from : ℕ) → set < 2 ^ 64 → 64 ≤ from → HasNoneFrom set from
none_at_all set from fits high k low bit = let small = below_64 set k fits bit in omega (arith, small, high, low)

-- ---- what holds of each, and of what is no member

pub more_members : (P : ℕ → Type 0) (set from number : ℕ) → IsNextIn set from number → ((k : ℕ) → (bit_at set k ≡ 1 → ⊥) → P k)
    → ((k : ℕ) → k < from → P k) → P number → (k : ℕ) → k < number + 1 → P k
more_members P set from number next others before here k low =
    elim (cases_lt k from) [
      | inl earlier ↦ before k earlier
      | inr behind ↦ elim (cases_eq k number) [
        | inl same ↦ subst P (sym same) here
        | inr apart ↦ others k (next.lowest k behind (omega (arith, low, apart)))
      ]
    ]

pub all_members : (P : ℕ → Type 0) (set from : ℕ) → HasNoneFrom set from → ((k : ℕ) → (bit_at set k ≡ 1 → ⊥) → P k)
    → ((k : ℕ) → k < from → P k) → (k : ℕ) → P k
all_members P set from none others before k =
    elim (cases_lt k from) [
      | inl earlier ↦ before k earlier
      | inr behind ↦ others k (none k behind)
    ]
