use Rattle.std.proofs.Common.{◌≡◌, ◌<◌, ◌≤◌, length, ◌-◌, slice_index}
use Rattle.sy_fleet_text.specs.Stretches as spec
use Rattle.sy_fleet_text.proofs.scan.text_end.Given as goal

abbrev pub invariant-loop-at : goal.invariant-loop-at
invariant-loop-at l = (l.start < l.at) × (l.at ≤ length l.text) × spec.InText l.text l.start l.at l.is_escaped

abbrev pub decreases-loop-at : goal.decreases-loop-at
decreases-loop-at l = length l.text - l.at
