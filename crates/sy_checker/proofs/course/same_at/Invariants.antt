use Rattle.std.proofs.Common.{◌≡◌, ℕ, ◌<◌, Some}
use Rattle.std.specs.Prelude.{slice_get}
use Rattle.sy_checker.specs.declared.course.Course.{Course}
use Rattle.sy_flows.specs.Flows.{AreSame}
use Rattle.sy_checker.proofs.course.same_at.Given as goal

abbrev pub invariant-loop-place : goal.invariant-loop-place
invariant-loop-place l = (k : ℕ) (course : Course) → k < l.place → slice_get l.courses k ≡ Some course → AreSame course.flows.lists l.flows → ⊥
