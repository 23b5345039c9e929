use Rattle.std.proofs.Common.{◌≡◌, ◌++◌, drop, map}
use Rattle.sy_board.specs.relay.Boards.{counts_of}
use Rattle.sy_host.specs.Totals.{action_lines}
use Rattle.sy_host.proofs.ending.totals.append_actions.Given as goal

-- what was put, and the lines that are left to put
abbrev pub invariant-loop-action : goal.invariant-loop-action
invariant-loop-action l =
    (l.place ≡ l.action-index)
    × (l.text.items ++ action_lines (drop l.action-index l.actions) (map counts_of (drop l.place l.counts))
    ≡ l.initial.text.items ++ action_lines l.actions (map counts_of l.counts))
