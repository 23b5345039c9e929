-- What is left of what became due.
use Rattle.std.proofs.Common.{◌≡◌, ◌+◌, ◌-◌, ℕ, List, ap, sym, arith}
use Rattle.sy_board.specs.declared.relay.accounts.ActionCounts.{ActionCounts}
use Rattle.sy_board.specs.relay.Boards.{counts_of}
use Rattle.sy_host.specs.Totals.{action_line, line_with}

left_of_due : (counts : ActionCounts) → (counts_of counts).due - ((counts_of counts).done + (counts_of counts).given_up) ≡ counts.left
left_of_due counts = omega arith

pub line_of : (name : List ℕ) (counts : ActionCounts) →
    line_with name (counts.done + counts.given_up + counts.left) counts.done counts.given_up counts.left ≡ action_line name (counts_of counts)
line_of name counts = ap (line_with name (counts.done + counts.given_up + counts.left) counts.done counts.given_up) (sym (left_of_due counts))
