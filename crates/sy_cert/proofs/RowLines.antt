-- The words of rows, against the words of a line.
use Rattle.std.proofs.Common.{◌≡◌, ℕ, suc, ◌+◌, ◌-◌, ◌*◌, ◌≤◌, Bool, true, false, List, [], ◌∷◌, ◌++◌, length, get_or, map, refl, sym, ap, subst, ◌∙◌, arith, eq-eqb}
use Rattle.std.specs.Prelude.{codes}
use Rattle.std.specs.Fmt.{decimal}
use Rattle.std.specs.Str.{bytes_eq}
use Rattle.std.proofs.lemmas.Bool.{true≢false}
use Rattle.std.proofs.lemmas.Slice.Eq.{bytes_eq-Decides}
use Rattle.sy_cert.specs.declared.fault.FaultCode.{FaultCode}
use Rattle.sy_cert.specs.declared.fault.FaultCode.TheVariants as code
use Rattle.sy_cert.specs.declared.kinds.Kind.{Kind}
use Rattle.sy_cert.specs.declared.row.Row.{Row}
use Rattle.sy_cert.specs.declared.row.Row.TheVariants as row
use Rattle.sy_cert.specs.Faults.{HasShape, IsClassLine, IsInnerLine, IsPathLine, IsRelayLine, words_in}
use Rattle.sy_cert.specs.internal.Reading.{AreUnread, IsNotTaken, IsUnread}
use Rattle.sy_cert.specs.Rows.{AreOccurrences, IsPort, IsRow, kind, last_from, words}

-- ---- words by their places

pub same_bytes : (w : List ℕ) → bytes_eq w w ≡ true
same_bytes [] = refl
same_bytes (b ∷ bs) = rw (eq-eqb b b refl) (same_bytes bs)

pub apart : (v w : List ℕ) → bytes_eq v w ≡ false → v ≡ w → ⊥
apart v w differ e = true≢false (sym (same_bytes w) ∙ ap (λ x. bytes_eq x w) (sym e) ∙ differ)

abbrev pub first : List (List ℕ) → List ℕ
first [] = []
first (w ∷ ws) = w

abbrev pub after_first : List (List ℕ) → List (List ℕ)
after_first [] = []
after_first (w ∷ ws) = ws

abbrev pub second : List (List ℕ) → List ℕ
second ws = first (after_first ws)

abbrev pub after_second : List (List ℕ) → List (List ℕ)
after_second ws = after_first (after_first ws)

abbrev pub third : List (List ℕ) → List ℕ
third ws = first (after_second ws)

abbrev pub fourth : List (List ℕ) → List ℕ
fourth ws = first (after_second (after_first ws))

abbrev pub after_fifth : List (List ℕ) → List (List ℕ)
after_fifth ws = after_second (after_second (after_first ws))

-- ---- numbers that no row has

abbrev pub IsUnwritten : ℕ → List (List ℕ) → Type 0
IsUnwritten version ws = (r : Row) → IsRow version r → words r ≡ ws → ⊥

pub class_unwritten : (version : ℕ) (ws : List (List ℕ)) (w : List ℕ) → IsClassLine (codes "class" ∷ ws) w
    → ((n : ℕ) → n ≤ 191 → w ≡ decimal n → ⊥) → IsUnwritten version (codes "class" ∷ ws)
class_unwritten version ws w h none (row.Class c) is e =
    none (8 * c.facility + c.severity) (omega (arith, is.0, is.1)) (ap second (sym h.whole ∙ sym e))
class_unwritten version ws w h none (row.Reach relay port) is e = apart (codes "reach") (codes "class") refl (ap first e)
class_unwritten version ws w h none (row.Branch relay port) is e = apart (codes "branch") (codes "class") refl (ap first e)
class_unwritten version ws w h none (row.Rank relay rank) is e = apart (codes "rank") (codes "class") refl (ap first e)
class_unwritten version ws w h none (row.Inner relay list number) is e = apart (codes "inner") (codes "class") refl (ap first e)
class_unwritten version ws w h none (row.Path relay port archive action ns) is e = apart (codes "path") (codes "class") refl (ap first e)

pub reach_unwritten : (version : ℕ) (ws : List (List ℕ)) (relay w : List ℕ) → IsRelayLine (codes "reach") (codes "reach" ∷ ws) relay w
    → ((n : ℕ) → IsPort n → w ≡ decimal n → ⊥) → IsUnwritten version (codes "reach" ∷ ws)
reach_unwritten version ws relay w h none (row.Class c) is e = apart (codes "class") (codes "reach") refl (ap first e)
reach_unwritten version ws relay w h none (row.Reach name port) is e = none port is.1 (ap third (sym h.whole ∙ sym e))
reach_unwritten version ws relay w h none (row.Branch name port) is e = apart (codes "branch") (codes "reach") refl (ap first e)
reach_unwritten version ws relay w h none (row.Rank name rank) is e = apart (codes "rank") (codes "reach") refl (ap first e)
reach_unwritten version ws relay w h none (row.Inner name list number) is e = apart (codes "inner") (codes "reach") refl (ap first e)
reach_unwritten version ws relay w h none (row.Path name port archive action ns) is e = apart (codes "path") (codes "reach") refl (ap first e)

pub branch_unwritten : (version : ℕ) (ws : List (List ℕ)) (relay w : List ℕ) → IsRelayLine (codes "branch") (codes "branch" ∷ ws) relay w
    → ((n : ℕ) → IsPort n → w ≡ decimal n → ⊥) → IsUnwritten version (codes "branch" ∷ ws)
branch_unwritten version ws relay w h none (row.Class c) is e = apart (codes "class") (codes "branch") refl (ap first e)
branch_unwritten version ws relay w h none (row.Reach name port) is e = apart (codes "reach") (codes "branch") refl (ap first e)
branch_unwritten version ws relay w h none (row.Branch name port) is e = none port is.2 (ap third (sym h.whole ∙ sym e))
branch_unwritten version ws relay w h none (row.Rank name rank) is e = apart (codes "rank") (codes "branch") refl (ap first e)
branch_unwritten version ws relay w h none (row.Inner name list number) is e = apart (codes "inner") (codes "branch") refl (ap first e)
branch_unwritten version ws relay w h none (row.Path name port archive action ns) is e = apart (codes "path") (codes "branch") refl (ap first e)

pub rank_unwritten : (version : ℕ) (ws : List (List ℕ)) (relay w : List ℕ) → IsRelayLine (codes "rank") (codes "rank" ∷ ws) relay w
    → ((n : ℕ) → n ≤ 4294967295 → w ≡ decimal n → ⊥) → IsUnwritten version (codes "rank" ∷ ws)
rank_unwritten version ws relay w h none (row.Class c) is e = apart (codes "class") (codes "rank") refl (ap first e)
rank_unwritten version ws relay w h none (row.Reach name port) is e = apart (codes "reach") (codes "rank") refl (ap first e)
rank_unwritten version ws relay w h none (row.Branch name port) is e = apart (codes "branch") (codes "rank") refl (ap first e)
rank_unwritten version ws relay w h none (row.Rank name rank) is e = none rank is.1 (ap third (sym h.whole ∙ sym e))
rank_unwritten version ws relay w h none (row.Inner name list number) is e = apart (codes "inner") (codes "rank") refl (ap first e)
rank_unwritten version ws relay w h none (row.Path name port archive action ns) is e = apart (codes "path") (codes "rank") refl (ap first e)

pub inner_unwritten : (version : ℕ) (ws : List (List ℕ)) (relay v w : List ℕ) → IsInnerLine (codes "inner" ∷ ws) relay v w
    → ((m n : ℕ) → m ≤ 4294967295 → n ≤ 4294967295 → v ≡ decimal m → w ≡ decimal n → ⊥) → IsUnwritten version (codes "inner" ∷ ws)
inner_unwritten version ws relay v w h none (row.Class c) is e = apart (codes "class") (codes "inner") refl (ap first e)
inner_unwritten version ws relay v w h none (row.Reach name port) is e = apart (codes "reach") (codes "inner") refl (ap first e)
inner_unwritten version ws relay v w h none (row.Branch name port) is e = apart (codes "branch") (codes "inner") refl (ap first e)
inner_unwritten version ws relay v w h none (row.Rank name rank) is e = apart (codes "rank") (codes "inner") refl (ap first e)
inner_unwritten version ws relay v w h none (row.Inner name list number) is e =
    none list number is.1 is.2 (ap third (sym h.whole ∙ sym e)) (ap fourth (sym h.whole ∙ sym e))
inner_unwritten version ws relay v w h none (row.Path name port archive action ns) is e = apart (codes "path") (codes "inner") refl (ap first e)

pub path_unwritten : (version : ℕ) (ws : List (List ℕ)) (relay port archive action : List ℕ) (way : List (List ℕ))
    → IsPathLine (codes "path" ∷ ws) relay port archive action way
    → ((n : ℕ) (ns : List ℕ) → IsPort n → AreOccurrences ns → port ≡ decimal n → map decimal ns ≡ way → ⊥)
    → IsUnwritten version (codes "path" ∷ ws)
path_unwritten version ws relay port archive action way h none (row.Class c) is e = apart (codes "class") (codes "path") refl (ap first e)
path_unwritten version ws relay port archive action way h none (row.Reach name n) is e = apart (codes "reach") (codes "path") refl (ap first e)
path_unwritten version ws relay port archive action way h none (row.Branch name n) is e = apart (codes "branch") (codes "path") refl (ap first e)
path_unwritten version ws relay port archive action way h none (row.Rank name n) is e = apart (codes "rank") (codes "path") refl (ap first e)
path_unwritten version ws relay port archive action way h none (row.Inner name list number) is e = apart (codes "inner") (codes "path") refl (ap first e)
path_unwritten version ws relay port archive action way h none (row.Path name n other name_of ns) is e =
    none n ns is.1 is.4 (ap third (sym h.whole ∙ sym e)) (ap after_fifth (e ∙ h.whole))

pub way_unread : (version : ℕ) (ws : List (List ℕ)) (relay port archive action : List ℕ) (way : List (List ℕ))
    → IsPathLine (codes "path" ∷ ws) relay port archive action way → (c : FaultCode) → AreUnread way c → IsUnread version (codes "path" ∷ ws) c
way_unread version ws relay port archive action way h code.Line never = absurd never
way_unread version ws relay port archive action way h code.Order never = never
way_unread version ws relay port archive action way h code.Number none = (
  HasShape.path_line relay port archive action way h,
  path_unwritten version ws relay port archive action way h (λ n ns is are e f. none ns are f),
)
way_unread version ws relay port archive action way h code.NoMemory u = tt

-- a branch line has a row's shape in version 2 alone
pub no_branch : (version : ℕ) (ws : List (List ℕ)) → (version ≡ 2 → ⊥) → HasShape version (codes "branch" ∷ ws) → ⊥
no_branch version ws other (HasShape.class_line class h) = apart (codes "branch") (codes "class") refl (ap first h.whole)
no_branch version ws other (HasShape.reach_line relay port h) = apart (codes "branch") (codes "reach") refl (ap first h.whole)
no_branch version ws other (HasShape.branch_line relay port is h) = other is
no_branch version ws other (HasShape.rank_line relay rank h) = apart (codes "branch") (codes "rank") refl (ap first h.whole)
no_branch version ws other (HasShape.inner_line relay list number h) = apart (codes "branch") (codes "inner") refl (ap first h.whole)
no_branch version ws other (HasShape.path_line relay port archive action way h) = apart (codes "branch") (codes "path") refl (ap first h.whole)

-- a line that is no row's is not taken
pub not_taken : (version : ℕ) (before : Kind) (line : List (List ℕ)) (c : FaultCode) → IsUnread version line c → IsNotTaken version before line c
not_taken version before line code.Line h = h
not_taken version before line code.Order h = absurd h
not_taken version before line code.Number h = h
not_taken version before line code.NoMemory h = tt

-- ---- occurrences one after another

more_occurrences : (ns : List ℕ) (n : ℕ) → AreOccurrences ns → n ≤ 63 → AreOccurrences (ns ++ n ∷ [])
more_occurrences [] n are small = (omega (arith, small), tt)
more_occurrences (m ∷ ns) n are small = (are.0, more_occurrences ns n are.1 small)

more_words : (ns : List ℕ) (n : ℕ) (later : List (List ℕ)) → map decimal (ns ++ n ∷ []) ++ later ≡ map decimal ns ++ decimal n ∷ later
more_words [] n later = refl
more_words (m ∷ ns) n later = ap (λ ws. decimal m ∷ ws) (more_words ns n later)

pub one_occurrence : (ns new : List ℕ) (n : ℕ) (w : List ℕ) (left later all : List (List ℕ)) → AreOccurrences ns → n ≤ 63 → w ≡ decimal n
    → left ≡ w ∷ later → map decimal ns ++ left ≡ all → new ≡ ns ++ n ∷ [] → AreOccurrences new × (map decimal new ++ later ≡ all)
one_occurrence ns new n w left later all are small e cut so_far more =
    subst (λ ms. AreOccurrences ms × (map decimal ms ++ later ≡ all)) (sym more) (
      more_occurrences ns n are small,
      more_words ns n later ∙ ap (λ v. map decimal ns ++ v ∷ later) (sym e) ∙ ap (λ ws. map decimal ns ++ ws) (sym cut) ∙ so_far,
    )

pub no_occurrences : (before : List (List ℕ)) (w : List ℕ) (later : List (List ℕ)) (ns : List ℕ) → map decimal ns ≡ before ++ w ∷ later
    → AreOccurrences ns → ((n : ℕ) → n ≤ 63 → w ≡ decimal n → ⊥) → ⊥
no_occurrences [] w later [] e are none = cc
no_occurrences [] w later (n ∷ ns) e are none = none n (omega (arith, are.0)) (sym (ap first e))
no_occurrences (v ∷ before) w later [] e are none = cc
no_occurrences (v ∷ before) w later (n ∷ ns) e are none = no_occurrences before w later ns (ap after_first e) are.1 none

-- ---- the last row

pub last_is : (before : Kind) (rows : List Row) (d : Row) → 1 ≤ length rows → last_from before rows ≡ kind (get_or rows (length rows - 1) d)
last_is before [] d some = absurd (omega (arith, some))
last_is before (r ∷ []) d some = refl
last_is before (r ∷ x ∷ rows) d some =
    let e : length (r ∷ x ∷ rows) - 1 ≡ suc (length (x ∷ rows) - 1) = omega arith in
    last_is (kind r) (x ∷ rows) d (omega arith) ∙ rw e refl

-- ---- a line that begins with a word

pub begins : (line found literal named : List ℕ) (rest : List (List ℕ)) (r : Bool) → words_in line ≡ found ∷ rest → r ≡ bytes_eq found literal
    → r ≡ true → literal ≡ named → words_in line ≡ named ∷ rest
begins line found literal named rest r cut equal holds is =
    cut ∙ ap (λ w. w ∷ rest) ((bytes_eq-Decides found literal).0 (sym equal ∙ holds) ∙ is)
