-- Why a text isn't read.
use Rattle.std.specs.Prelude.{◌≡◌, ℕ, ◌<◌, List, length, slice_index, Some}
use Rattle.sy_fleet_text.specs.Pieces.{Shows, at_end}
use Rattle.sy_fleet_text.specs.Texts.{Covers, Reached, start}
use Rattle.sy_fleet_text.specs.declared.fault.Refusal.TheVariants as refusal
use Rattle.sy_fleet_text.specs.declared.fault.TextFault.{TextFault}
use Rattle.sy_fleet_text.specs.declared.piece.Piece.{Piece}

-- want of memory, which has no place
abbrev pub no_memory : TextFault
no_memory = record { refusal = refusal.NoMemory; at = 0 }

-- The text isn't read, for this reason. Unless memory ran out or the text is too long, pieces cover all that is before the
-- place of the fault.
pub data IsRefused (text : List ℕ) : TextFault → Type 0 where
  memory : IsRefused text no_memory
  -- more than 1 MiB
  too_long : {fault : TextFault} → 1048576 < length text → fault ≡ record { refusal = refusal.TooLong; at = 0 } → IsRefused text fault
  -- what is at the place is no piece
  unread : {fault : TextFault} {pieces : List Piece} {reached : Reached} → Covers text start pieces reached → fault.at ≡ reached.at
      → reached.at < length text → Shows fault.refusal text reached.at → IsRefused text fault
  -- a `}` where no block is open
  no_block : {fault : TextFault} {pieces : List Piece} {reached : Reached} → Covers text start pieces reached
      → fault ≡ record { refusal = refusal.NoBlock; at = reached.at } → reached.depth ≡ 0 → slice_index text reached.at ≡ 125 → IsRefused text fault
  -- the end of the text in a statement or a block
  unended : {fault : TextFault} {pieces : List Piece} {reached : Reached} → Covers text start pieces reached → fault.at ≡ reached.at
      → reached.at ≡ length text → at_end reached.context reached.depth ≡ Some fault.refusal → IsRefused text fault
