use Rattle.std.proofs.Common.{◌≡◌, ◌<◌, ◌≤◌, ℕ, true, length, ◌-◌}
use Rattle.sy_fleet_text.specs.Stretches as spec
use Rattle.sy_fleet_text.proofs.scan.line_end.Given as goal

abbrev pub invariant-loop-end : goal.invariant-loop-end
invariant-loop-end l = (l.start < l.end) × (l.end ≤ length l.text) × ((k : ℕ) → l.start < k → k < l.end → spec.line_goes_on l.text k ≡ true)

abbrev pub decreases-loop-end : goal.decreases-loop-end
decreases-loop-end l = length l.text - l.end
