-- What is read of a log on the way.
use Rattle.std.specs.Prelude.{◌≡◌, ◌<◌, ℕ, take, List, ◌++◌, length}
use Rattle.sy_journal.specs.Frames.{IsFrame, Frames, BeginsWithNoFrame}
use Rattle.sy_journal.specs.Packing.{digits}
use Rattle.sy_journal.specs.Segment.{AreBatches}

-- a file that stands for these contents, in so many bytes
pub record IsSplit (file : List ℕ) (contents : List (List ℕ)) (end : ℕ) : Type 0 where
  pub used : List ℕ
  pub tail : List ℕ
  pub frames : Frames contents used
  pub split : file ≡ used ++ tail
  pub size : length used ≡ end
  pub shut : BeginsWithNoFrame tail

-- a frame stands at the front, with this content, and this behind it
pub record BeginsWithFrame (file content after : List ℕ) : Type 0 where
  pub frame : List ℕ
  pub is : IsFrame content frame
  pub split : file ≡ frame ++ after

-- frames with these contents, and this behind them
pub record BeginsWithFrames (file : List ℕ) (contents : List (List ℕ)) (rest : List ℕ) : Type 0 where
  pub used : List ℕ
  pub frames : Frames contents used
  pub split : file ≡ used ++ rest

-- the same front, and behind it no frame
pub record BeginsWithNoFrameBehind (end : ℕ) (old new : List ℕ) : Type 0 where
  pub tail : List ℕ
  pub is : new ≡ take end old ++ tail
  pub shut : BeginsWithNoFrame tail

-- an entry stands at the front, and this behind it
pub record BeginsWithEntry (bytes entry after : List ℕ) : Type 0 where
  pub short : length entry < 268435456
  pub is : bytes ≡ digits (length entry) ++ (entry ++ after)

-- no entry stands at the front
abbrev pub BeginsWithNoEntry : List ℕ → Type 0
BeginsWithNoEntry bytes = (entry after : List ℕ) → BeginsWithEntry bytes entry after → ⊥

-- whichever entries the contents have: these stand in front of them, and what is left has the others
abbrev pub AreFront : List (List ℕ) → List (List ℕ) → List (List ℕ) → Type 0
AreFront contents done rest = (es : List (List ℕ)) → AreBatches contents es → (tail : List (List ℕ)) × (es ≡ done ++ tail) × AreBatches rest tail
