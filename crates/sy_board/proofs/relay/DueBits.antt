-- The occurrences due of an entry, dealt with from the lowest on.
use Rattle.std.proofs.Common.{◌≡◌, ℕ, ◌+◌, ◌*◌, ◌%◌, ◌^◌, ◌<◌, ◌≤◌, Bool, true, false, List, [], ◌∷◌, length, refl, arith, bit_and, nat_lt, None}
use Rattle.std.specs.Prelude.{◌≢◌, min, slice_get}
use Rattle.std.specs.Int.{bit_at, Width, bit_not, trailing_zeros}
use Rattle.std.proofs.lemmas.Nat.{and_le_l}
use Rattle.std.proofs.lemmas.Nat.Bits.{bit_at_clear_same, bit_at_clear_other, bit_at-trailing_zeros, bit_at_above, bit_at_and}
use Rattle.std.proofs.lemmas.Bool.Decides.{nat_tests}
use Rattle.sy_rules.specs.declared.lists.occurrence.Occurrence.{Occurrence}
use Rattle.sy_rules.specs.lists.Sets.{IsLowest}
use Rattle.sy_board.specs.relay.Totals.{due_of}

-- ---- the lowest bit, as the code computes it

min_zero : (x : ℕ) → min 0 x ≡ 0
min_zero x = omega arith

pub lowest_of : (due : ℕ) → 0 < due → due < 2 ^ 64 → IsLowest due (trailing_zeros Width.w64 due) (bit_and due (bit_not Width.w64 (1 * 2 ^ trailing_zeros Width.w64 due % 2 ^ 64)))
lowest_of due some fits =
    let z = bit_at-trailing_zeros Width.w64 due some fits in
    record {
      member = z.1;
      lowest = z.2;
      gone = bit_at_clear_same Width.w64 due (trailing_zeros Width.w64 due) z.0;
      others = λ k n. go k n (nat_lt k 64) refl;
    }
  where
    go : (k : ℕ) → k ≢ trailing_zeros Width.w64 due → (t : Bool) → nat_lt k 64 ≡ t → bit_at (bit_and due (bit_not Width.w64 (1 * 2 ^ trailing_zeros Width.w64 due % 2 ^ 64))) k ≡ bit_at due k
    go k n true e = bit_at_clear_other Width.w64 due (trailing_zeros Width.w64 due) (bit_at-trailing_zeros Width.w64 due some fits).0 k (grind (arith, nat_tests)) n
    go k n false e =
        let above : bit_at due k ≡ 0 = bit_at_above due 64 k fits (grind (arith, nat_tests)) in
        rw (bit_at_and due (bit_not Width.w64 (1 * 2 ^ trailing_zeros Width.w64 due % 2 ^ 64)) k, above) (min_zero _)

-- and less is left
pub less_left : (due : ℕ) → 0 < due → due < 2 ^ 64 → bit_and due (bit_not Width.w64 (1 * 2 ^ trailing_zeros Width.w64 due % 2 ^ 64)) < due
less_left due some fits = below (bit_and due (bit_not Width.w64 (1 * 2 ^ trailing_zeros Width.w64 due % 2 ^ 64))) (lowest_of due some fits) (and_le_l due _)
  where
    below : (left : ℕ) → IsLowest due (trailing_zeros Width.w64 due) left → left ≤ due → left < due
    below left first most =
        let apart : left ≢ due = λ e. (let has : bit_at left (trailing_zeros Width.w64 due) ≡ 1 = rw e first.member in let none = first.gone in omega (arith, has, none)) in
        omega (arith, apart)

-- ---- a number that no occurrence has

past_end : (os : List Occurrence) (n : ℕ) → slice_get os n ≡ None → length os ≤ n
past_end [] n none = omega arith
past_end (o ∷ os) ℕ.zero none = cc
past_end (o ∷ os) (ℕ.suc n) none = let m = past_end os n none in omega arith

due_before : (f : Occurrence → Bool) (os : List Occurrence) (due left number k : ℕ) → k + length os ≤ number → IsLowest due number left → due_of f os left k ≡ due_of f os due k
due_before f [] due left number k past first = refl
due_before f (o ∷ os) due left number k past first =
    rw (first.others k (omega arith), due_before f os due left number (ℕ.suc k) (omega arith) first) refl

pub due_beyond : (f : Occurrence → Bool) (os : List Occurrence) (due left number : ℕ) → slice_get os number ≡ None → IsLowest due number left → due_of f os left 0 ≡ due_of f os due 0
due_beyond f os due left number none first = due_before f os due left number 0 (let past = past_end os number none in omega arith) first
