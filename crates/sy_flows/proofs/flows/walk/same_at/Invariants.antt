use Rattle.std.proofs.Common.{◌≡◌, ℕ, ◌<◌, Some}
use Rattle.std.specs.Prelude.{slice_get}
use Rattle.sy_flows.specs.declared.flows.walk.Walk.{Walk}
use Rattle.sy_flows.specs.Flows.{AreSame}
use Rattle.sy_flows.proofs.flows.walk.same_at.Given as goal

abbrev pub invariant-loop-place : goal.invariant-loop-place
invariant-loop-place l = (k : ℕ) (walk : Walk) → k < l.place → slice_get l.walks k ≡ Some walk → AreSame walk.flows.lists l.flows → ⊥
