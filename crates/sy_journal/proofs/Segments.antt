-- What a segment stands for, after its calls.
use Rattle.std.proofs.Common.{◌≡◌, inl, inr, ⊎_elim, ℕ, zero, suc, ◌+◌, ◌≤◌, List, [], ◌∷◌, ◌++◌, length, take, drop, refl, sym, ◌∙◌, ap, subst, arith, append_assoc, length-append}
use Rattle.std.proofs.lemmas.List.{append-nil, drop-drop}
use Rattle.sy_journal.specs.Bridge.{slots}
use Rattle.sy_journal.specs.Storage.{written_at, LeavesOnly, Only}
use Rattle.sy_journal.specs.Frames.{Reads, blank}
use Rattle.sy_journal.specs.Life.{unfinished}
use Rattle.sy_journal.specs.Log.{IsBeforeOrAfter, IsAsBefore, IsAtRest, IsCleared}
use Rattle.sy_journal.specs.declared.log.Log.{Log}
use Rattle.sy_journal.proofs.Fading.{fades_same}
use Rattle.sy_journal.specs.Finishes.{AllSet, AreSound, Fades}
use Rattle.sy_journal.specs.Packing.{packed, AreShort}
use Rattle.sy_journal.specs.Segment.{AreBatches, StandFor, IsWithOrWithout, FinishesMayFade}
use Rattle.sy_journal.proofs.Framing.{reads_once}

pub opens-push : (contents entries batch : List (List ℕ)) (content : List ℕ) → AreBatches contents entries → content ≡ packed batch → AreShort batch → AreBatches (contents ++ content ∷ []) (entries ++ batch)
opens-push [] entries batch content opens is short = (batch, [], is, ap (λ (l : List (List ℕ)). l ++ batch) opens ∙ sym (append-nil batch), refl, short)
opens-push (x ∷ contents) entries batch content opens is short =
    (opens.0, opens.1 ++ batch, opens.2, ap (λ (l : List (List ℕ)). l ++ batch) opens.3 ∙ append_assoc opens.0 opens.1 batch, opens-push contents opens.1 batch content opens.4 is short, opens.5)

pub record Blank (bytes : List ℕ) : Type 0 where
  pub left : ℕ
  pub is : bytes ≡ blank left

drop-blank : (n left : ℕ) → Blank (drop n (blank left))
drop-blank zero left = record { left = left; is = refl }
drop-blank (suc n) zero = record { left = 0; is = refl }
drop-blank (suc n) (suc left) = drop-blank n left

pub still_blank : (n m k left : ℕ) (finishes : List ℕ) → k ≡ n + m → drop n finishes ≡ blank left → Blank (drop k finishes)
still_blank n m k left finishes is behind =
    let from = drop-blank m left in
    record { left = from.left; is = ap (λ (j : ℕ). drop j finishes) is ∙ sym (drop-drop m n finishes) ∙ ap (drop m) behind ∙ from.is }

pub stands-push : (old new finishes content : List ℕ) (entries batch : List (List ℕ)) → ((xs : List (List ℕ)) → Reads xs old → Reads (xs ++ content ∷ []) new) → content ≡ packed batch → AreShort batch → StandFor old finishes entries → StandFor new finishes (entries ++ batch)
stands-push old new finishes content entries batch reads is short s =
    let b = still_blank (length entries) (length batch) (length (entries ++ batch)) s.left finishes (length-append entries batch) s.behind in
    record { contents = s.contents ++ content ∷ []; left = b.left; reads = reads s.contents s.reads; opens = opens-push s.contents entries batch content s.opens is short; behind = b.is }

pub with_or_without : (old content new : List ℕ) → IsBeforeOrAfter old content new → IsWithOrWithout old content new
with_or_without old content new before entries batch finishes is short s =
    ⊎_elim
    (λ without. inl (record { contents = s.contents; left = s.left; reads = without; opens = s.opens; behind = s.behind }))
    (λ with.
    let b = still_blank (length entries) (length batch) (length (entries ++ batch)) s.left finishes (length-append entries batch) s.behind in
    inr (record { contents = s.contents ++ content ∷ []; left = b.left; reads = with; opens = opens-push s.contents entries batch content s.opens is short; behind = b.is }))
    (before s.contents s.reads)

-- a run of calls leaves what has a weaker property too
pub weaker : {S : Type 0} (moment : S → ℕ) (left_since : S → ℕ → List ℕ → Type 0) (old new : S) (P Q : List ℕ → Type 0) → LeavesOnly moment left_since old new P → ((c : List ℕ) → P c → Q c) → LeavesOnly moment left_since old new Q
weaker moment left_since old new P Q leaves leads = record {
  later = leaves.later;
  each = λ c left. leads c (leaves.each c left);
  before = λ t c le left. ⊎_elim (λ past. inl past) (λ now. inr (leads c now)) (leaves.before t c le left);
}

pub drop-written_at : (at n : ℕ) (run finishes : List ℕ) → at + length run ≤ n → drop n (written_at at run finishes) ≡ drop n finishes
drop-written_at at n run [] le = refl
drop-written_at zero n [] (m ∷ finishes) le = refl
drop-written_at zero zero (r ∷ run) (m ∷ finishes) le = absurd (omega (arith, le))
drop-written_at zero (suc n) (r ∷ run) (m ∷ finishes) le = drop-written_at zero n run finishes (omega (arith, le))
drop-written_at (suc at) zero run (m ∷ finishes) le = absurd (omega (arith, le))
drop-written_at (suc at) (suc n) run (m ∷ finishes) le = drop-written_at at n run finishes (omega (arith, le))

pub stands-finish : (log finishes run : List ℕ) (at : ℕ) (entries : List (List ℕ)) → at + length run ≤ length entries → StandFor log finishes entries → StandFor log (written_at at run finishes) entries
stands-finish log finishes run at entries le s = record { contents = s.contents; left = s.left; reads = s.reads; opens = s.opens; behind = drop-written_at at (length entries) run finishes le ∙ s.behind }

pub all_done : (base n : ℕ) (entries : List (List ℕ)) (finishes : List ℕ) → length entries ≡ n → n ≤ length finishes → AllSet (take n finishes) → unfinished (slots base entries finishes) ≡ []
all_done base n [] finishes is le all = refl
all_done base zero (e ∷ entries) finishes is le all = absurd (omega (arith, is))
all_done base (suc n) (e ∷ entries) [] is le all = absurd (omega (arith, le))
all_done base (suc n) (e ∷ entries) (zero ∷ finishes) is le all = absurd (omega (arith, all.0))
all_done base (suc n) (e ∷ entries) (suc m ∷ finishes) is le all = all_done (suc base) n entries finishes (omega (arith, is)) (omega (arith, le)) all.1

-- the contents that are read are those that the entries are in
pub opens_read : (log finishes : List ℕ) (contents entries : List (List ℕ)) → Reads contents log → StandFor log finishes entries → AreBatches contents entries
opens_read log finishes contents entries reads s = subst (λ (l : List (List ℕ)). AreBatches l entries) (reads_once s.contents contents log s.reads reads) s.opens

-- a cleared file whose bytes are all on the disk is at rest
pub cleared_rests : {S : Type 0} (seen : S → List ℕ) (may_leave : S → List ℕ → Type 0) (log : Log S) (contents : List (List ℕ)) → IsCleared (seen log.file) contents log.end log.size → Only (seen log.file) (may_leave log.file) → IsAtRest seen may_leave log
cleared_rests seen may_leave log contents c durable = record { contents = contents; used = c.used; left = c.left; frames = c.frames; file = c.bytes; end = c.ends; size = c.sizes; durable = durable }

-- the same contents, with the same finishes
pub stands_still : (log new finishes : List ℕ) (es : List (List ℕ)) → IsAsBefore log new → StandFor log finishes es → StandFor new finishes es
stands_still log new finishes es same s = record { contents = s.contents; left = s.left; reads = same s.contents s.reads; opens = s.opens; behind = s.behind }

-- what is all on the disk has lost no finish
pub only_sound : {S : Type 0} (seen : S → List ℕ) (may_leave : S → List ℕ → Type 0) (finishes : S) → Only (seen finishes) (may_leave finishes) → AreSound seen may_leave finishes
only_sound seen may_leave finishes only c left = subst (λ (l : List ℕ). Fades (seen finishes) l) (sym (only c left)) (fades_same (seen finishes))

fades-blank : (left : ℕ) (set found : List ℕ) → Fades set found → set ≡ blank left → found ≡ blank left
fades-blank left [] found fades is = fades ∙ is
fades-blank left (s ∷ set) [] fades is = absurd fades
fades-blank zero (s ∷ set) (c ∷ found) fades is = absurd (cc is)
fades-blank (suc left) (s ∷ set) (c ∷ found) fades is =
    let first : s ≡ 0 = cc is in
    let rest : set ≡ blank left = cc is in
    λ i. fades.0 first i ∷ fades-blank left set found fades.1 rest i

drop-fades : (n left : ℕ) (set found : List ℕ) → Fades set found → drop n set ≡ blank left → drop n found ≡ blank left
drop-fades zero left set found fades is = fades-blank left set found fades is
drop-fades (suc n) left [] found fades is = ap (λ (l : List ℕ). drop (suc n) l) fades ∙ is
drop-fades (suc n) left (s ∷ set) [] fades is = absurd fades
drop-fades (suc n) left (s ∷ set) (c ∷ found) fades is = drop-fades n left set found fades.1 is

pub finishes_may_fade : FinishesMayFade
finishes_may_fade log set found entries fades s = record { contents = s.contents; left = s.left; reads = s.reads; opens = s.opens; behind = drop-fades (length entries) s.left set found fades s.behind }
