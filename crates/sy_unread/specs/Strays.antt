-- Why bytes begin no frame, and which of them shows it (this profile's own).
use Rattle.std.specs.Prelude.{ℕ, ◌+◌, ◌<◌, List, length, take}
use Rattle.sy_wire.specs.Frames.{IsBadLength, IsTooLong}
use Rattle.sy_wire.specs.declared.framer.FrameFault.{FrameFault}
use Rattle.sy_wire.specs.declared.framer.FrameFault.TheVariants.{BadLength, TooLong}

-- the fault that a framer finds at the front of bytes
abbrev pub IsFaultOf : FrameFault → List ℕ → Type 0
IsFaultOf BadLength bytes = IsBadLength bytes
IsFaultOf TooLong bytes = IsTooLong bytes
IsFaultOf _ bytes = ⊥

-- With the byte at this place a framer finds this fault, and without it none.
pub record FailsAt (fault : FrameFault) (at : ℕ) (bytes : List ℕ) : Type 0 where
  pub within : at < length bytes
  pub shown : IsFaultOf fault (take (at + 1) bytes)
  pub not_bad : IsBadLength (take at bytes) → ⊥
  pub not_long : IsTooLong (take at bytes) → ⊥
