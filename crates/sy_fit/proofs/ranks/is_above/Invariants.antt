use Rattle.std.proofs.Common.{◌≡◌, ℕ, ◌<◌, Some}
use Rattle.std.specs.Prelude.{slice_get}
use Rattle.sy_fit.specs.internal.Ranked.{FallsAt}
use Rattle.sy_fit.specs.declared.rows.wanted.Wanted.{Wanted}
use Rattle.sy_fit.proofs.ranks.is_above.Given as goal

abbrev pub invariant-loop-is : goal.invariant-loop-is
invariant-loop-is l = (k : ℕ) (is : Wanted) → k < l.is-index → slice_get l.part k ≡ Some is → FallsAt l.site l.class l.part l.rows l.relay l.rank is
