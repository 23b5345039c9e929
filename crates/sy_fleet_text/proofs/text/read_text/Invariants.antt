use Rattle.std.proofs.Common.{◌≤◌, length, ◌-◌}
use Rattle.sy_fleet_text.specs.Texts.{Covers, start}
use Rattle.sy_fleet_text.proofs.text.read_text.Given as goal

abbrev pub invariant-loop-at : goal.invariant-loop-at
invariant-loop-at l = Covers l.text start l.pieces.items (record { at = l.at; context = l.context; depth = l.depth }) × (l.at ≤ length l.text) × (l.depth ≤ l.at) × (length l.text ≤ 1048576)

abbrev pub decreases-loop-at : goal.decreases-loop-at
decreases-loop-at l = length l.text - l.at
