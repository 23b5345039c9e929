use Rattle.std.proofs.Common.{◌≡◌, ℕ, ◌<◌, Some}
use Rattle.std.specs.Prelude.{slice_get}
use Rattle.sy_site.specs.declared.site.SiteInput.{SiteInput}
use Rattle.sy_fit.specs.Fit.{IsClean}
use Rattle.sy_checker.proofs.kinds.search.first_unclean.Given as goal

abbrev pub invariant-loop-place : goal.invariant-loop-place
invariant-loop-place l = (k : ℕ) (x : SiteInput) → k < l.place → slice_get l.inputs k ≡ Some x → IsClean l.site l.fn.class x
