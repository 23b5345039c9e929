-- What a connection holds when it stops gathering frames.
use Rattle.std.specs.Prelude.{◌≡◌, ℕ, List, false}
use Rattle.sy_wire.specs.Frames.{Held, IsBadLength, IsOpen, IsTooLong}
use Rattle.sy_wire.specs.declared.framer.FrameFault.{FrameFault}
use Rattle.sy_wire.specs.declared.framer.FrameFault.TheVariants.{BadLength, TooLong}
use Rattle.sy_runtime.specs.Connections.{Counts, Kept}
use Rattle.sy_runtime.specs.internal.Held.{Holds}
use Rattle.sy_runtime.specs.declared.untaken.Item.{Item}
use Rattle.sy_runtime.specs.declared.connection.gathering.Gathered.{Gathered}
use Rattle.sy_runtime.specs.declared.connection.gathering.Gathered.TheVariants.{Open, Full, Fault, NoMemory}

-- the fault stands at the front of these bytes
abbrev pub IsAtFront : FrameFault → List ℕ → Type 0
IsAtFront BadLength left = IsBadLength left
IsAtFront TooLong left = IsTooLong left
IsAtFront _ left = ⊥

-- by what ended the gathering
abbrev pub GatherIs : Gathered → List ℕ → Counts → Kept → List Item → Held → Type 0
GatherIs Open read end kept batch held = Holds read end kept batch held.left × (held.has_failed ≡ false) × IsOpen held.left
GatherIs Full read end kept batch held = Holds read end kept batch held.left × (held.has_failed ≡ false)
GatherIs (Fault fault) read end kept batch held = Holds read end kept batch held.left × IsAtFront fault held.left
GatherIs NoMemory read end kept batch held = Holds read end kept batch held.left × (held.has_failed ≡ false)
