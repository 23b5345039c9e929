use Rattle.std.proofs.Common.{length, ◌-◌, ◌≤◌}
use Rattle.sy_fleet.proofs.reading.read_all.Given as goal
use Rattle.sy_fleet.specs.Statements.{Cover}

abbrev pub invariant-loop-first : goal.invariant-loop-first
invariant-loop-first l = (l.first ≤ length l.pieces) × Cover l.pieces l.statements.items l.first

abbrev pub decreases-loop-first : goal.decreases-loop-first
decreases-loop-first l = length l.pieces - l.first
