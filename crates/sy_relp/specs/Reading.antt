-- What the calls of a reader of frames find and leave.
use Rattle.std.specs.Prelude.{◌≡◌, ◌≢◌, ℕ, Bool, true, false, List, [], ◌∷◌, ◌++◌}
use Rattle.sy_wire.specs.Frames.{Held}
use Rattle.sy_wire.specs.Steps.{Breaks, Feeds, HadFailed, Refuses}
use Rattle.sy_relp.specs.Faults.{Faulty}
use Rattle.sy_relp.specs.Frames.{Frame, GoesOn, IsFrame, NoFrame, frame}
use Rattle.sy_relp.specs.declared.fault.FrameFault.{FrameFault}
use Rattle.sy_relp.specs.declared.fault.FrameFault.TheVariants.{BadNumber, BadCommand, BadLength, TooLong, BadTrailer, Truncated, NoMemory, Failed}

-- a frame stands at the front, and this behind it
pub record FrameAt (bytes : List ℕ) (f : Frame) (behind : List ℕ) : Type 0 where
  pub is_frame : IsFrame f
  pub whole : bytes ≡ frame f ++ behind

-- the frame at the front was given
pub record Gives (old : Held) (f : Frame) (new : Held) : Type 0 where
  pub good : old.has_failed ≡ false
  pub at : FrameAt old.left f new.left
  pub stays_good : new.has_failed ≡ false

-- Whether one was. If not, more bytes have to come first, which make a frame of these, and nothing has changed.
abbrev pub GivesInto : Bool → Held → Frame → Held → Type 0
GivesInto true old f new = Gives old f new
GivesInto false old f new = (old.has_failed ≡ false) × (new ≡ old) × GoesOn old.left

-- a whole frame stands at the front
abbrev pub HasFrame : List ℕ → Type 0
HasFrame bytes = (f : Frame) × (behind : List ℕ) × FrameAt bytes f behind

-- `next_into` answered this fault
abbrev pub Stops : FrameFault → Held → Held → Type 0
Stops BadNumber old new = Breaks old new × Faulty BadNumber old.left
Stops BadCommand old new = Breaks old new × Faulty BadCommand old.left
Stops BadLength old new = Breaks old new × Faulty BadLength old.left
Stops TooLong old new = Breaks old new × Faulty TooLong old.left
Stops BadTrailer old new = Breaks old new × Faulty BadTrailer old.left
Stops Truncated old new = ⊥
Stops NoMemory old new = Refuses old new × HasFrame old.left
Stops Failed old new = HadFailed old new

-- the stream ended behind its last frame
pub record EndsWhole (old new : Held) : Type 0 where
  pub good : old.has_failed ≡ false
  pub none_left : old.left ≡ []
  pub same : new ≡ old

-- `end` answered this fault
abbrev pub EndStops : FrameFault → Held → Held → Type 0
EndStops Truncated old new = (old.left ≢ []) × Breaks old new
EndStops Failed old new = HadFailed old new
EndStops _ old new = ⊥

-- a reader's life: the bytes that it read, the frames that it gave, and how it stands
pub data Reads : List ℕ → List Frame → Held → Type 0 where
  begins : Reads [] [] (record { left = []; has_failed = false })
  fills : {bytes : List ℕ} {frames : List Frame} {old new : Held} (piece : List ℕ) → Reads bytes frames old → Feeds old piece new → Reads (bytes ++ piece) frames new
  gives : {bytes : List ℕ} {frames : List Frame} {old new : Held} (f : Frame) → Reads bytes frames old → Gives old f new → Reads bytes (frames ++ f ∷ []) new
  stops : {bytes : List ℕ} {frames : List Frame} {old new : Held} → Reads bytes frames old → Breaks old new → Reads bytes frames new

-- However a stream is cut into pieces, the frames given and what is left are the same, once no frame stands in what is left.
abbrev pub CuttingIsFree : Type 0
CuttingIsFree =
    (bytes : List ℕ) (fs gs : List Frame) (held held' : Held) → Reads bytes fs held → Reads bytes gs held' → NoFrame held.left → NoFrame held'.left
    → (fs ≡ gs) × (held.left ≡ held'.left)
