use Rattle.std.proofs.Common.{◌≡◌, ◌++◌, map, option_to_list}
use Rattle.sy_board.specs.relay.Cells.{all_of}
use Rattle.sy_board.proofs.relay.board.draining.append_hands.Given as goal

-- what was put there so far, and what will be, is all
abbrev pub invariant-loop-hand : goal.invariant-loop-hand
invariant-loop-hand l = l.left ++ all_of (map option_to_list l.hand-iterator.rest.items) ≡ l.initial.left ++ all_of (map option_to_list l.initial.hand-iterator.rest.items)
