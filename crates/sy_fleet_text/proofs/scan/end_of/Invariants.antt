use Rattle.std.proofs.Common.{◌≤◌, length, ◌-◌}
use Rattle.sy_fleet_text.specs.Classes.{is_in}
use Rattle.sy_fleet_text.specs.Stretches as spec
use Rattle.sy_fleet_text.proofs.scan.end_of.Given as goal

abbrev pub invariant-loop-class : goal.invariant-loop-class
invariant-loop-class l = (l.from ≤ l.end) × (l.end ≤ length l.text) × spec.AreEach (is_in l.class) l.text l.from l.end

abbrev pub decreases-loop-class : goal.decreases-loop-class
decreases-loop-class l = length l.text - l.end
