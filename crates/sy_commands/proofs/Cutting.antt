-- Cutting what is held of an events file into lines.
use Rattle.std.proofs.Common.{◌≡◌, ℕ, Bool, true, false, zero, suc, ◌+◌, ◌-◌, ◌<◌, ◌==◌, List, [], ◌∷◌, ◌++◌, length, get_or, take, drop, Some, None, refl, sym, subst, ap, ◌∙◌, arith, add-one, true≢false}
use Rattle.std.proofs.lemmas.List.{take_all, length-append, length-drop, append-nil, append_assoc}
use Rattle.std.proofs.lemmas.List.Elements.{All-append, All-from_get_or}
use Rattle.std.proofs.lemmas.List.Splits.{slice_split_none, slice_split-cons_yes, slice_split-cons_no}
use Rattle.std.specs.List.{slice_split, onto_first}
use Rattle.memchr.specs.Find.{IsFirstByte, is_byte}
use Rattle.sy_commands.specs.Replays.{lines_of}
use Rattle.std.specs.Prelude.{Option, is_some}
use Rattle.sy_commands.specs.internal.Halts.{IsOpenLine, Reads}

is_false : (b : Bool) → (b ≡ true → ⊥) → b ≡ false
is_false true never = absurd (never refl)
is_false false never = refl

split_found : (p : ℕ → Bool) (at : ℕ) (bytes ahead : List ℕ) → at < length bytes → ((k : ℕ) → k < at → p (get_or bytes k 0) ≡ true → ⊥)
    → p (get_or bytes at 0) ≡ true
    → slice_split p (bytes ++ ahead) ≡ take at bytes ∷ slice_split p (drop (suc at) bytes ++ ahead)
split_found p at [] ahead within before here = absurd (omega arith)
split_found p zero (b ∷ bytes) ahead within before here = slice_split-cons_yes p b (bytes ++ ahead) here
split_found p (suc at) (b ∷ bytes) ahead within before here =
    slice_split-cons_no p b (bytes ++ ahead) (is_false (p b) (before 0 (omega arith)))
    ∙ ap (onto_first b) (split_found p at bytes ahead (omega arith) (λ k h. before (suc k) (omega arith)) here)

-- what is behind a place, as a slice has it
behind_is : (at : ℕ) (bytes : List ℕ) → take (length bytes - (at + 1)) (drop (at + 1) bytes) ≡ drop (suc at) bytes
behind_is at bytes = take_all _ _ (omega (arith, length-drop (at + 1) bytes)) ∙ rw (add-one at) refl

-- the first line of what is held, whatever comes behind
pub line_cut : (at : ℕ) (bytes : List ℕ) → IsFirstByte (is_byte 10) bytes (Some at) → (ahead : List ℕ)
    → lines_of (bytes ++ ahead) ≡ take at bytes ∷ lines_of (take (length bytes - (at + 1)) (drop (at + 1) bytes) ++ ahead)
line_cut at bytes h ahead = rw (behind_is at bytes) (split_found (is_byte 10) at bytes ahead h.0.high (λ k low. h.0.before k (omega arith) low) h.1)

pub is_open : (bytes : List ℕ) → IsFirstByte (is_byte 10) bytes None → IsOpenLine bytes
is_open bytes h = All-from_get_or (λ b. (b == 10) ≡ false) bytes 0 (λ i low. is_false (get_or bytes i 0 == 10) (h i (omega arith) low))

pub stays_open : (held piece : List ℕ) → IsOpenLine held → IsOpenLine piece → IsOpenLine (held ++ piece)
stays_open held piece h k = All-append (λ b. (b == 10) ≡ false) held piece h k

drop_front : (xs ys : List ℕ) → drop (length xs) (xs ++ ys) ≡ ys
drop_front [] ys = refl
drop_front (x ∷ xs) ys = drop_front xs ys

-- what was read, behind what was held
read_behind : (held held' piece : List ℕ) (before : ℕ) → held' ≡ held ++ piece → before ≡ length held
    → take (length held' - before) (drop before held') ≡ piece
read_behind held held' piece before is long =
    let at_place : drop before held' ≡ piece = rw (long, is) (drop_front held piece) in
    let size : length held' ≡ length held + length piece = ap (λ xs. length xs) is ∙ length-append held piece in
    ap (take (length held' - before)) at_place ∙ take_all (length held' - before) piece (omega (arith, long, size))

-- no line ends in what is held then
pub open_behind : (held held' : List ℕ) (before count : ℕ) (found : Option ℕ) (ahead ahead' : Option (List ℕ)) → IsOpenLine held
    → Reads count held held' ahead ahead' → before ≡ length held
    → IsFirstByte (is_byte 10) (take (length held' - before) (drop before held')) found → is_some found ≡ false → IsOpenLine held'
open_behind held held' before count (Some at) ahead ahead' is r long first none = absurd (true≢false none)
open_behind held held' before count None ahead ahead' is r long first none =
    let all_first = subst (λ bytes. IsFirstByte (is_byte 10) bytes None) (read_behind held held' r.0 before r.1 long) first in
    subst IsOpenLine (sym r.1) (stays_open held r.0 is (is_open r.0 all_first))

-- what is open is one line
pub one_line : (bytes : List ℕ) → IsOpenLine bytes → lines_of bytes ≡ bytes ∷ []
one_line bytes h = slice_split_none (λ b. b == 10) bytes h

-- ---- what a read gives

pub read_on : (held held' ahead : List ℕ) (count : ℕ) (after : Option (List ℕ)) → Reads count held held' (Some ahead) after
    → (next : List ℕ) × (after ≡ Some next) × (held ++ ahead ≡ held' ++ next)
read_on held held' ahead count None r = absurd r.2.consumed
read_on held held' ahead count (Some next) r =
    (next, refl, ap (λ xs. held ++ xs) r.2.consumed ∙ sym (append_assoc held r.0 next) ∙ ap (λ xs. xs ++ next) (sym r.1))

pub read_end : (held held' ahead : List ℕ) (count : ℕ) (after : Option (List ℕ)) → count ≡ 0 → Reads count held held' (Some ahead) after
    → held ++ ahead ≡ held'
read_end held held' ahead count None none r = absurd r.2.consumed
read_end held held' ahead count (Some next) none r =
    ap (λ xs. held ++ xs) r.2.consumed ∙ sym (append_assoc held r.0 next) ∙ ap (λ xs. xs ++ next) (sym r.1)
    ∙ ap (λ xs. held' ++ xs) (r.2.at_end none) ∙ append-nil held'
