-- A segment: a log of packed batches, and a finish for each entry.
use Rattle.std.specs.Prelude.{◌≡◌, ◌⊎◌, ◌≤◌, ℕ, List, [], ◌∷◌, ◌++◌, length, drop}
use Rattle.sy_journal.specs.Frames.{Reads, blank}
use Rattle.sy_journal.specs.Log.{IsAtRest}
use Rattle.sy_journal.specs.Finishes.{AreSound, Fades}
use Rattle.sy_journal.specs.Packing.{packed, AreShort}
use Rattle.sy_journal.specs.declared.segment.Segment.{Segment}

-- contents that are batches of these entries
abbrev pub AreBatches : List (List ℕ) → List (List ℕ) → Type 0
AreBatches [] entries = entries ≡ []
AreBatches (content ∷ contents) entries = (batch : List (List ℕ)) × (rest : List (List ℕ)) × (content ≡ packed batch) × (entries ≡ batch ++ rest) × AreBatches contents rest × AreShort batch

-- a log and its finishes stand for these entries, and no place behind them is finished
pub record StandFor (log finishes : List ℕ) (entries : List (List ℕ)) : Type 0 where
  pub contents : List (List ℕ)
  pub left : ℕ
  pub reads : Reads contents log
  pub opens : AreBatches contents entries
  pub behind : drop (length entries) finishes ≡ blank left

-- a segment that may be appended to: its log is on the disk, and no crash leaves a finish that wasn't set
pub record IsReady {S : Type 0} (seen : S → List ℕ) (may_leave : S → List ℕ → Type 0) (segment : Segment S) : Type 0 where
  pub entries : List (List ℕ)
  pub log : IsAtRest seen may_leave segment.log
  pub sound : AreSound seen may_leave segment.finishes
  pub places : segment.places ≡ length (seen segment.finishes)
  pub count : segment.count ≡ length entries
  pub within : segment.count ≤ segment.places
  pub stands : StandFor (seen segment.log.file) (seen segment.finishes) entries

-- with any finishes, a log stands for the entries that an older one stood for, or for those and the batch
abbrev pub IsWithOrWithout : List ℕ → List ℕ → List ℕ → Type 0
IsWithOrWithout old content new = (entries batch : List (List ℕ)) (finishes : List ℕ) → content ≡ packed batch → AreShort batch → StandFor old finishes entries → StandFor new finishes entries ⊎ StandFor new finishes (entries ++ batch)

-- a log with finishes of which some are lost stands for the same entries: so what a crash leaves of one file goes with
-- what it leaves of the other
abbrev pub FinishesMayFade : Type 0
FinishesMayFade = (log set found : List ℕ) (entries : List (List ℕ)) → Fades set found → StandFor log set entries → StandFor log found entries
