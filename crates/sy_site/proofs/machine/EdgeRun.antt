-- What the edge relay of the example does until its link has a message: then it holds nothing again.
use Rattle.std.proofs.Common.{ℕ, false, [], ◌∷◌, refl, arith}
use Rattle.sy_wire.specs.declared.class.Class.{Class}
use Rattle.sy_chain.specs.Entries.{Entry}
use Rattle.sy_board.specs.relay.Cells as cells
use Rattle.sy_board.specs.relay.Cells.{Cell, RelayState, set_cell, set_failures, hand}
use Rattle.sy_board.specs.relay.Steps.{Enters, Grabs, Settles, Takes}
use Rattle.sy_site.specs.machine.Examples.{edge_plan, example_message}
use Rattle.sy_site.proofs.machine.DueSets.{first_due, lowest}

module _ (class : Class) (tag : ℕ) where
  abbrev pub node : Entry
  node = record { message = example_message class; list = 1; input = 0; due = 1; tag = tag }

  abbrev pub r0 : RelayState
  r0 = cells.opening edge_plan

  abbrev pub r1 : RelayState
  r1 = set_cell r0 (hand 0 0) (node ∷ [])

  abbrev pub r2 : RelayState
  r2 = set_cell (set_cell r1 (hand 0 0) []) (Cell.Queue 1) (node ∷ [])

  abbrev pub r3 : RelayState
  r3 = set_cell (set_cell r2 (Cell.Queue 1) []) (Cell.Worker 1) (node ∷ [])

  abbrev pub r4 : RelayState
  r4 = set_failures (set_cell r3 (Cell.Worker 1) []) 1 0

  pub takes : Takes edge_plan r0 0 0 node false r1
  takes = record {
    there =
        (omega arith, omega arith);
    made = record { input_is = refl; list = refl; due = first_due };
    free = refl;
    discarded = refl;
    after = refl;
  }

  pub enters : Enters edge_plan r1 0 0 node r2
  enters = record { leaves = record { there = (omega arith, omega arith); held = refl; not_held = refl }; room = omega arith; after = refl }

  pub grabs : Grabs edge_plan r2 1 [] r3
  grabs = record { there = omega arith; idle = refl; some = omega arith; lost_are = refl; after = refl }

  pub settles : Settles edge_plan r3 1 0 node r4
  settles = record {
    job = record { there = omega arith; entry = node; others = []; held = refl; number = 0; left = 0; first = lowest; found = refl };
    its = refl;
    after = refl;
  }
