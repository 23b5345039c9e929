-- The board of a pass, from one step to the next: at most one message is on it.
use Rattle.std.specs.Prelude.{◌≡◌, ℕ, ◌+◌, false, [], ◌∷◌, None}
use Rattle.sy_wire.specs.Messages.{Said}
use Rattle.sy_rules.specs.PassPlan as pass
use Rattle.sy_rules.specs.PlanValue.{Plan}
use Rattle.sy_chain.specs.Entries.{Entry}
use Rattle.sy_actions.specs.Devices.{Hatched}
use Rattle.sy_actions.specs.Lines.{LineState}
use Rattle.sy_board.specs.relay.Boards.{BoardState}
use Rattle.sy_board.specs.relay.Cells.{Cell, RelayState, opening, set_cell}
use Rattle.sy_board.specs.relay.Totals.{Totals}

-- a message's entry, as it enters a pass's board: of the one list, from the one input, its one occurrence due
abbrev pub entry_of : Said → Entry
entry_of message = record { message = message; list = 0; input = 0; due = 1; tag = 0 }

-- the entry of some message
abbrev pub IsEntry : Entry → Type 0
IsEntry node = node ≡ entry_of node.message

-- the plan of a pass, with the defaults of its queue written out
abbrev pub plan : Plan
plan = record pass.plan {
  queues = record {
    size = 50000;
    batch = 1024;
    full_delay_mark = 48500;
    light_delay_mark = 35000;
    discard_mark = 40000;
    discard_severity = 8;
    timeout_enqueue = 2000;
    workers = 1;
    waits = false;
  } ∷ [];
}

-- so many messages were taken, grabbed and written, and none was lost
abbrev pub totals_of : (taken grabbed written : ℕ) → Totals
totals_of taken grabbed written = record {
  taken = taken;
  lost_in = 0;
  posted = 0;
  lost_post = 0;
  grabbed = grabbed;
  lost_out = 0;
  posts_due = 0;
  guarded_lost = 0;
  actions = record { due = grabbed; done = written; given_up = 0 } ∷ [];
}

abbrev pub board_of : Totals → RelayState → BoardState
board_of totals state = record { plan = plan; guard = None; state = state; totals = totals }

-- ---- The four states of the board, where so many messages came before the one that is on it

abbrev pub idle : ℕ → BoardState
idle n = board_of (totals_of n n n) (opening plan)

-- the worker has it
abbrev pub ready : ℕ → Said → BoardState
ready n message = board_of (totals_of (n + 1) (n + 1) n) (set_cell (opening plan) (Cell.Worker 0) (entry_of message ∷ []))

-- ---- the hatch of the one action, round the sink of lines

-- It has the action's number and made so many receipts, and no line is torn.
pub record IsWhole {W : Type 0} (hatch : Hatched (LineState W)) (made : ℕ) : Type 0 where
  pub number : hatch.number ≡ 0
  pub made_is : hatch.made ≡ made
  pub torn : hatch.device.torn ≡ []
  pub out : hatch.device.out ≡ 0
