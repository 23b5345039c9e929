use Rattle.std.proofs.Common.{◌≡◌, ℕ, ◌<◌, Some}
use Rattle.std.specs.Prelude.{slice_get}
use Rattle.sy_fit.specs.Fit.{IsRightAt}
use Rattle.sy_fit.specs.declared.rows.wanted.Wanted.{Wanted}
use Rattle.sy_fit.proofs.rows.part.first_wrong.Given as goal

abbrev pub invariant-loop-place : goal.invariant-loop-place
invariant-loop-place l = (k : ℕ) (is : Wanted) → k < l.place → slice_get l.part k ≡ Some is → IsRightAt l.site l.fn.class l.part l.rows k is
