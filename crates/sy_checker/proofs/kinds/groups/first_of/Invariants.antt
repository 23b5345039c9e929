use Rattle.std.proofs.Common.{◌≡◌, ℕ, ◌<◌, Some}
use Rattle.std.specs.Prelude.{slice_get}
use Rattle.sy_checker.specs.Survey.{subject}
use Rattle.sy_checker.specs.declared.kinds.groups.Group.{Group}
use Rattle.sy_checker.proofs.kinds.groups.first_of.Given as goal

-- none before is such a group
abbrev pub invariant-loop-place : goal.invariant-loop-place
invariant-loop-place l = (n : ℕ) (g : Group) → n < l.place → slice_get l.groups n ≡ Some g → subject g ≡ (l.fn.input, l.fn.kind) → ⊥
