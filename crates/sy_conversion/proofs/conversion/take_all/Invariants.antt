use Rattle.std.proofs.Common.{◌-◌, ◌≤◌}
use Rattle.sy_conversion.proofs.conversion.take_all.Given as goal
use Rattle.sy_conversion.specs.Conversions.{Cover}

abbrev pub invariant-loop-first : goal.invariant-loop-first
invariant-loop-first l = (l.first ≤ l.most) × Cover l.source.pieces.now l.source.fleet.now.statements.items l.told.items l.first

abbrev pub decreases-loop-first : goal.decreases-loop-first
decreases-loop-first l = l.most - l.first
