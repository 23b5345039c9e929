-- How the steps of a pass change its board.
use Rattle.std.specs.Prelude.{◌≡◌, ℕ, ◌+◌, [], ◌∷◌}
use Rattle.sy_wire.specs.Messages.{Said}
use Rattle.sy_actions.specs.Devices.{Delivered}
use Rattle.sy_actions.specs.declared.device.DeviceFault.{DeviceFault}
use Rattle.sy_actions.specs.declared.device.DeviceFault.TheVariants as device_fault
use Rattle.sy_board.specs.relay.Boards.{BoardState}
use Rattle.sy_board.specs.relay.Cells.{Cell, hand, opening, set_cell}
use Rattle.sy_passing.specs.declared.pass.one_message.CarryFault.{CarryFault}
use Rattle.sy_passing.specs.declared.pass.one_message.CarryFault.TheVariants as carry_fault
use Rattle.sy_passing.specs.Ways.{entry_of, plan, totals_of, board_of, ready}

abbrev pub in_hand : ℕ → Said → BoardState
in_hand n message = board_of (totals_of (n + 1) n n) (set_cell (opening plan) (hand 0 0) (entry_of message ∷ []))

abbrev pub queued : ℕ → Said → BoardState
queued n message = board_of (totals_of (n + 1) n n) (set_cell (opening plan) (Cell.Queue 0) (entry_of message ∷ []))

-- the receipt is for the message that the worker has
pub record IsReceiptOf (board : BoardState) (receipt : Delivered) : Type 0 where
  pub before : ℕ
  pub message : Said
  pub board_is : board ≡ ready before message
  pub receipt_is : receipt ≡ record { device = 0; message = message }

-- what a fault of the sink stops a pass with
abbrev pub IsCarryFault : DeviceFault → CarryFault → Type 0
IsCarryFault device_fault.NoMemory fault = fault ≡ carry_fault.NoMemory
IsCarryFault _ fault = fault ≡ carry_fault.WriteFailed
