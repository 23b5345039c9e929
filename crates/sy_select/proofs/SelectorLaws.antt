-- Selectors part by part.
use Rattle.std.proofs.Common.{◌≡◌, ℕ, ◌<◌, ◌^◌, Bool, true, false, List, [], ◌∷◌, ◌++◌, Some, None, refl, sym, ◌∙◌, append_assoc, zero, suc, get_or, length, slice_index, arith}
use Rattle.std.proofs.Math.ListN.{replicate}
use Rattle.std.proofs.lemmas.Nat.Bits.{bit_at-zero}
use Rattle.std.specs.List.{flat_map}
use Rattle.std.proofs.lemmas.List.Sums.{fold-append}
use Rattle.sy_select.specs.declared.fault.FaultCode.{FaultCode}
use Rattle.sy_select.specs.Faults.{cut, faults, part_faults, pieces}
use Rattle.sy_select.specs.internal.Reading.{Applies, ReadsPart, Refuses}
use Rattle.sy_select.specs.Selectors.{apply, holds, IsSelector, IsSetOf, last, more, no_pairs, Part, pairs_of, SamePairs}
use Rattle.sy_select.proofs.Cutting.{first_piece, pieces_last, pieces_more}

abbrev pub AreSmall : List ℕ → Type 0
AreSmall sets = (f : ℕ) → f < 24 → slice_index sets f < 2 ^ 8

-- What stands before the rest are parts, and these their pairs.
pub record PartsSoFar (text rest sets : List ℕ) : Type 0 where
  pub parts : List Part
  pub right : flat_map (part_faults text) (pieces 59 rest) ≡ flat_map (part_faults text) (pieces 59 text)
  pub goes_on : (others : List Part) → IsSelector rest others → IsSelector text (parts ++ others)
  pub size : length sets ≡ 24
  pub small : AreSmall sets
  pub same : SamePairs sets (pairs_of parts)

pub parts_start : (text sets : List ℕ) → length sets ≡ 24 → AreSmall sets → ((f s : ℕ) → f < 24 → s < 8 → holds sets f s ≡ false) → PartsSoFar text text sets
unfolding pairs_of
parts_start text sets size small none = record { parts = []; right = refl; goes_on = λ others h. h; size = size; small = small; same = none }

pub one_more : (parts : List Part) (part : Part) → pairs_of (parts ++ part ∷ []) ≡ apply (pairs_of parts) part
unfolding pairs_of
one_more parts part = fold-append apply no_pairs parts (part ∷ [])

pairs_more : (whole text : List ℕ) (table : List Bool) (takes : Bool) (mask : ℕ) (parts : List Part) (old new : List ℕ) (r : ReadsPart whole text table takes mask) → SamePairs old (pairs_of parts) → Applies table takes mask old new → SamePairs new (pairs_of (parts ++ r.part ∷ []))
pairs_more whole text table takes mask parts old new r same applies f s p q =
    rw (one_more parts r.part, applies.pairs f s p q, r.facilities f p, r.severities s q, r.takes_is, same f s p q) refl

pub parts_more : (text rest front behind : List ℕ) (table : List Bool) (takes : Bool) (mask : ℕ) (old new : List ℕ) → PartsSoFar text rest old → ReadsPart text front table takes mask
    → front ≡ (cut 59 rest).0 → Some behind ≡ (cut 59 rest).1 → Applies table takes mask old new → PartsSoFar text behind new
parts_more text rest front behind table takes mask old new so_far r f b applies =
    let cuts = pieces_more 59 rest behind (sym b) in
    let split : pieces 59 rest ≡ front ∷ pieces 59 behind = rw (← f) at cuts.0 in
    let whole : rest ≡ front ++ 59 ∷ behind = rw (← f) at cuts.1 in
    record {
      parts = so_far.parts ++ r.part ∷ [];
      right =
          let step : flat_map (part_faults text) (pieces 59 rest) ≡ flat_map (part_faults text) (pieces 59 behind) = rw (split, r.right) refl in
          sym step ∙ so_far.right;
      goes_on = λ others h. rw append_assoc (so_far.goes_on (r.part ∷ others) (rw whole (more front r.is h)));
      size = applies.size;
      small = λ f within. applies.small f within (so_far.small f within);
      same = pairs_more text front table takes mask so_far.parts old new r so_far.same applies;
    }

pub parts_done : (text rest front : List ℕ) (table : List Bool) (takes : Bool) (mask : ℕ) (old new : List ℕ) → PartsSoFar text rest old → ReadsPart text front table takes mask
    → front ≡ (cut 59 rest).0 → None ≡ (cut 59 rest).1 → Applies table takes mask old new → IsSetOf text new × (faults text ≡ [])
unfolding faults
parts_done text rest front table takes mask old new so_far r f b applies =
    let cuts = pieces_last 59 rest (sym b) in
    let split : pieces 59 rest ≡ front ∷ [] = rw (← f) at cuts.0 in
    let whole : rest ≡ front = cuts.1 ∙ sym f in
    let step : flat_map (part_faults text) (pieces 59 rest) ≡ [] = rw (split, r.right) refl in (
      record {
        parts = so_far.parts ++ r.part ∷ [];
        is_selector = so_far.goes_on (r.part ∷ []) (rw whole (last r.is));
        size = applies.size;
        small = λ f within. applies.small f within (so_far.small f within);
        same = pairs_more text front table takes mask so_far.parts old new r so_far.same applies;
      },
      sym so_far.right ∙ step,
    )

pub part_fault : (text rest front sets : List ℕ) (c : FaultCode) (word : List ℕ) → PartsSoFar text rest sets → front ≡ (cut 59 rest).0 → Refuses (part_faults text front) c word → Refuses (faults text) c word
unfolding faults
part_fault text rest front sets c word so_far f r =
    let first = first_piece 59 rest in
    let step : flat_map (part_faults text) (pieces 59 rest) ≡ record { code = c; word = word } ∷ (r.0 ++ flat_map (part_faults text) first.0) = rw (first.1, ← f, r.1) refl in
    (r.0 ++ flat_map (part_faults text) first.0, sym so_far.right ∙ step)

-- ---- no pairs at first

abbrev pub all_zero : List ℕ → Bool
all_zero [] = true
all_zero (zero ∷ xs) = all_zero xs
all_zero (suc n ∷ xs) = false

at_zero : (sets : List ℕ) (f : ℕ) → all_zero sets ≡ true → get_or sets f 0 ≡ 0
at_zero [] f e = refl
at_zero (zero ∷ xs) zero e = refl
at_zero (zero ∷ xs) (suc f) e = at_zero xs f e
at_zero (suc n ∷ xs) f e = cc

pub none_held : (sets : List ℕ) → all_zero sets ≡ true → (f s : ℕ) → f < 24 → s < 8 → holds sets f s ≡ false
none_held sets e f s p q = rw (at_zero sets f e, bit_at-zero s) refl

all_small : (sets : List ℕ) → all_zero sets ≡ true → AreSmall sets
all_small sets e f within = rw (at_zero sets f e) (omega arith)

pub parts_start_empty : (text : List ℕ) (n : ℕ) → n ≡ 0 → PartsSoFar text text (replicate 24 n)
parts_start_empty text n e = rw e (parts_start text (replicate 24 0) refl (all_small (replicate 24 0) refl) (none_held (replicate 24 0) refl))
