-- The lowest occurrence of a set of 64 bits and the set without it, as a worker computes them; there are no two of them.
use Rattle.std.proofs.Common.{◌≡◌, ◌≢◌, ℕ, ◌*◌, ◌%◌, ◌^◌, ◌<◌, min, Bool, true, false, inl, inr, refl, sym, ◌∙◌, arith, bit_and, nat_lt}
use Rattle.std.specs.Int.{bit_at, Width, bit_not, trailing_zeros}
use Rattle.std.proofs.lemmas.Bool.{cases_eq, cases_lt}
use Rattle.std.proofs.lemmas.Bool.Decides.{nat_tests}
use Rattle.std.proofs.lemmas.Nat.Bits.{bit_at_clear_same, bit_at_clear_other, bit_at-trailing_zeros, bit_at_above, bit_at_and, same_from_bits}
use Rattle.sy_rules.specs.lists.Sets.{IsLowest}

min_zero : (x : ℕ) → min 0 x ≡ 0
min_zero x = omega arith

-- the set without an occurrence
abbrev without : ℕ → ℕ → ℕ
without set number = bit_and set (bit_not Width.w64 (1 * 2 ^ number % 2 ^ 64))

module _ (set : ℕ) (some : 0 < set) (fits : set < 2 ^ 64) where
  abbrev first : ℕ
  first = trailing_zeros Width.w64 set

  others_stay : (k : ℕ) → k ≢ first → (t : Bool) → nat_lt k 64 ≡ t → bit_at (without set first) k ≡ bit_at set k
  others_stay k n true e = bit_at_clear_other Width.w64 set first (bit_at-trailing_zeros Width.w64 set some fits).0 k (grind (arith, nat_tests)) n
  others_stay k n false e =
      let above : bit_at set k ≡ 0 = bit_at_above set 64 k fits (grind (arith, nat_tests)) in
      rw (bit_at_and set (bit_not Width.w64 (1 * 2 ^ first % 2 ^ 64)) k, above) (min_zero _)

  pub lowest_of : (number : ℕ) × (left : ℕ) × (number < 64) × IsLowest set number left
  lowest_of =
      let found = bit_at-trailing_zeros Width.w64 set some fits in (
        first,
        without set first,
        found.0,
        record {
          member = found.1;
          lowest = found.2;
          gone = bit_at_clear_same Width.w64 set first found.0;
          others = λ k n. others_stay k n (nat_lt k 64) refl;
        },
      )

not_below : (set m n left rest : ℕ) → IsLowest set m left → IsLowest set n rest → m < n → ⊥
not_below set m n left rest a b less = let none : bit_at set m ≡ 0 = b.lowest m less in let has : bit_at set m ≡ 1 = a.member in omega (arith, none, has)

pub one_lowest : (set m n left rest : ℕ) → IsLowest set m left → IsLowest set n rest → m ≡ n
one_lowest set m n left rest a b =
    elim (cases_lt m n) [
      | inl less ↦ absurd (not_below set m n left rest a b less)
      | inr more ↦ elim (cases_lt n m) [
        | inl less ↦ absurd (not_below set n m rest left b a less)
        | inr most ↦ omega arith
      ]
    ]

pub one_left : (set m n left rest : ℕ) → IsLowest set m left → IsLowest set n rest → left ≡ rest
one_left set m n left rest a b = same_from_bits left rest bit
  where
    same : m ≡ n
    same = one_lowest set m n left rest a b

    bit : (k : ℕ) → bit_at left k ≡ bit_at rest k
    bit k =
        elim (cases_eq k m) [
          | inl at ↦ rw (at, a.gone, same, b.gone) refl
          | inr apart ↦ a.others k apart ∙ sym (b.others k (λ h. apart (h ∙ sym same)))
        ]
