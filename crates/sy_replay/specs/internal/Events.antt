-- What the parts of a replay say of an event that is illegal, and of flags.
use Rattle.std.specs.Prelude.{◌≡◌, List, ◌||◌, Bool}
use Rattle.sy_board.specs.declared.fault.BoardFault.{BoardFault}
use Rattle.sy_board.specs.declared.fault.BoardFault.TheVariants as fault
use Rattle.sy_board.specs.relay.Boards.{BoardState, IsTooFull, stepped}
use Rattle.sy_board.specs.relay.Cells.{RelayState}
use Rattle.sy_board.specs.relay.Steps as steps
use Rattle.sy_board.specs.relay.Steps.{Out, Step}
use Rattle.sy_site.specs.machine.States.{Copy}
use Rattle.sy_replay.specs.declared.event.Illegal.{Illegal}
use Rattle.sy_replay.specs.declared.event.Illegal.TheVariants as illegal

-- ---- what a relay's board does

-- The board makes the step, which lets these out, and counts it.
abbrev pub Goes : BoardState → steps.Event → BoardState → List Out → Type 0
Goes old event new outs = Step old.plan old.state event new.state outs × (new ≡ stepped old event new.state outs)

-- Why an event isn't applied: it is no step; or it is one, and a total would pass its limit. That memory ran out says nothing.
abbrev pub IsIllegal : Illegal → BoardState → steps.Event → Type 0
IsIllegal illegal.NotAStep old event = (new : RelayState) (outs : List Out) → Step old.plan old.state event new outs → ⊥
IsIllegal illegal.NoMemory old event = Unit {0}
IsIllegal illegal.TotalsFull old event =
    (new : RelayState) × (outs : List Out) × Step old.plan old.state event new outs × IsTooFull (stepped old event new outs)

-- what a board's refusal of a step means
abbrev pub illegal_of : BoardFault → Illegal
illegal_of fault.TotalsFull = illegal.TotalsFull
illegal_of _ = illegal.NotAStep

-- the copy behind an action: where that is spare it is flagged from then on, and where it was flagged it stays so
abbrev pub behind : (spare : Bool) → Copy → Copy
behind spare copy = record copy { flag = copy.flag || spare }
