-- A log: frames at the front of a file, and zeros behind them.
use Rattle.std.specs.Prelude.{◌≡◌, ◌⊎◌, ℕ, List, [], ◌∷◌, ◌++◌, length}
use Rattle.sy_journal.specs.Storage.{Only}
use Rattle.sy_journal.specs.Frames.{Frames, Reads, blank}
use Rattle.sy_journal.specs.declared.log.Log.{Log}

-- the file is frames and zeros, all of it on the disk
pub record IsAtRest {S : Type 0} (seen : S → List ℕ) (may_leave : S → List ℕ → Type 0) (log : Log S) : Type 0 where
  pub contents : List (List ℕ)
  pub used : List ℕ
  pub left : ℕ
  pub frames : Frames contents used
  pub file : seen log.file ≡ used ++ blank left
  pub end : log.end ≡ length used
  pub size : log.size ≡ length (seen log.file)
  pub durable : Only (seen log.file) (may_leave log.file)

-- a file stands for what an older one stood for, with one content more or without it
abbrev pub IsBeforeOrAfter : List ℕ → List ℕ → List ℕ → Type 0
IsBeforeOrAfter old content new = (xs : List (List ℕ)) → Reads xs old → Reads xs new ⊎ Reads (xs ++ content ∷ []) new

-- a file stands for what an older one stood for
abbrev pub IsAsBefore : List ℕ → List ℕ → Type 0
IsAsBefore old new = (xs : List (List ℕ)) → Reads xs old → Reads xs new

-- frames with these contents, and zeros behind them
pub record IsCleared (file : List ℕ) (contents : List (List ℕ)) (end size : ℕ) : Type 0 where
  pub used : List ℕ
  pub left : ℕ
  pub frames : Frames contents used
  pub bytes : file ≡ used ++ blank left
  pub ends : end ≡ length used
  pub sizes : size ≡ length file
