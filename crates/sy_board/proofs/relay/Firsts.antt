-- The first of a worker's entries and the lowest occurrence due of it, as the code finds them.
use Rattle.std.proofs.Common.{◌≡◌, ℕ, ◌*◌, ◌%◌, ◌^◌, ◌<◌, min, Bool, true, false, List, [], ◌∷◌, length, refl, sym, subst, ap, ◌∙◌, arith, bit_and, nat_lt, get_or, drop, Option, Some, None}
use Rattle.std.specs.Prelude.{◌≢◌, slice_get}
use Rattle.std.specs.Int.{bit_at, Width, bit_not, trailing_zeros}
use Rattle.std.proofs.lemmas.Bool.Decides.{nat_tests}
use Rattle.std.proofs.lemmas.Nat.Bits.{bit_at_clear_same, bit_at_clear_other, bit_at-trailing_zeros, bit_at_above, bit_at_and}
use Rattle.sy_wire.specs.Messages.{Said}
use Rattle.sy_chain.specs.Entries.{Entry}
use Rattle.sy_rules.specs.declared.lists.occurrence.Occurrence.{Occurrence}
use Rattle.sy_rules.specs.declared.lists.occurrence.Occurrence.TheVariants as occurrence
use Rattle.sy_rules.specs.PlanValue.{Plan}
use Rattle.sy_rules.specs.lists.Sets.{IsLowest}
use Rattle.sy_rules.proofs.lemmas.lists.Lowest.{one_lowest}
use Rattle.sy_board.specs.relay.Plans.{occurrences_at}
use Rattle.sy_board.specs.internal.Jobs.{HasNext, IsFirstOf, IsNext, IsNextOf}

pub front_read : (entries : List Entry) (first : Entry) → entries ≡ first ∷ drop 1 entries → first ≡ get_or entries 0 first
front_read entries first is = subst (λ es. first ≡ get_or es 0 first) (sym is) refl

min_zero : (x : ℕ) → min 0 x ≡ 0
min_zero x = omega arith

-- the set without its lowest occurrence
abbrev pub without_first : ℕ → ℕ
without_first due = bit_and due (bit_not Width.w64 (1 * 2 ^ trailing_zeros Width.w64 due % 2 ^ 64))

pub lowest_of : (due : ℕ) → 0 < due → due < 2 ^ 64 → IsLowest due (trailing_zeros Width.w64 due) (without_first due)
lowest_of due some fits =
    let z = bit_at-trailing_zeros Width.w64 due some fits in
    record {
      member = z.1;
      lowest = z.2;
      gone = bit_at_clear_same Width.w64 due (trailing_zeros Width.w64 due) z.0;
      others = λ k n. go k n (nat_lt k 64) refl;
    }
  where
    go : (k : ℕ) → k ≢ trailing_zeros Width.w64 due → (t : Bool) → nat_lt k 64 ≡ t → bit_at (without_first due) k ≡ bit_at due k
    go k n true e = bit_at_clear_other Width.w64 due (trailing_zeros Width.w64 due) (bit_at-trailing_zeros Width.w64 due some fits).0 k (grind (arith, nat_tests)) n
    go k n false e =
        let above : bit_at due k ≡ 0 = bit_at_above due 64 k fits (grind (arith, nat_tests)) in
        rw (bit_at_and due (bit_not Width.w64 (1 * 2 ^ trailing_zeros Width.w64 due % 2 ^ 64)) k, above) (min_zero _)

-- what was read of the first entry
pub record IsRead (es : List Entry) (e : Entry) (list due : ℕ) : Type 0 where
  pub some : 0 < length es
  pub first : e ≡ get_or es 0 e
  pub list_is : list ≡ e.list
  pub due_is : due ≡ e.due
  pub work : 0 < due
  pub fits : due < 2 ^ 64

lowest_read : (e : Entry) (due : ℕ) → due ≡ e.due → 0 < due → due < 2 ^ 64 → IsLowest e.due (trailing_zeros Width.w64 due) (without_first due)
lowest_read e due same some fits = subst (λ d. IsLowest d (trailing_zeros Width.w64 due) (without_first due)) same (lowest_of due some fits)

pub next_by : (plan : Plan) (es : List Entry) (e : Entry) (list due : ℕ) (o : Occurrence) → IsRead es e list due
    → slice_get (occurrences_at plan list) (trailing_zeros Width.w64 due) ≡ Some o → IsNext plan es o (without_first due)
next_by plan [] e list due o read found = let none = read.some in absurd (omega (arith, none))
next_by plan (x ∷ others) e list due o read found = record {
  entry = e;
  others = others;
  held = ap (λ (z : Entry). z ∷ others) (sym read.first);
  number = trailing_zeros Width.w64 due;
  first = lowest_read e due read.due_is read.work read.fits;
  found = subst (λ l. slice_get (occurrences_at plan l) (trailing_zeros Width.w64 due) ≡ Some o) read.list_is found;
}

same_entry : (e f : Entry) (es fs : List Entry) → e ∷ es ≡ f ∷ fs → e ≡ f
same_entry e f es fs h = cc

missing : (o : Occurrence) (found : Option Occurrence) → found ≡ None → found ≡ Some o → ⊥
missing o found none some = cc

pub no_next : (plan : Plan) (es : List Entry) (e : Entry) (list due : ℕ) → IsRead es e list due
    → slice_get (occurrences_at plan list) (trailing_zeros Width.w64 due) ≡ None → HasNext plan es → ⊥
no_next plan [] e list due read none next = let empty = read.some in absurd (omega (arith, empty))
no_next plan (x ∷ others) e list due read none next =
    let is = next.2 in
    let same : is.entry ≡ e = same_entry is.entry e is.others others (sym is.held ∙ ap (λ (z : Entry). z ∷ others) (sym read.first)) in
    let number : is.number ≡ trailing_zeros Width.w64 due = one_lowest e.due is.number (trailing_zeros Width.w64 due) next.1 (without_first due)
    (subst (λ (y : Entry). IsLowest y.due is.number next.1) same is.first) (lowest_read e due read.due_is read.work read.fits) in
    let list_is : is.entry.list ≡ list = ap (λ (y : Entry). y.list) same ∙ sym read.list_is in
    missing next.0 _ none (rw (list_is, number) at is.found)

-- ---- what a device answered

-- of that run, and about the first entry's message
pub of_next : (plan : Plan) (es : List Entry) (action device : ℕ) (message : Said) (left : ℕ) → action ≡ device → IsNext plan es (occurrence.Run action) left
    → IsFirstOf es message → IsNextOf plan es device message left
of_next plan es action device message left same next first =
    let its : IsNext plan es (occurrence.Run device) left = subst (λ (a : ℕ). IsNext plan es (occurrence.Run a) left) same next in
    record { next = its; its = subst (λ (xs : List Entry). IsFirstOf xs message) its.held first }
