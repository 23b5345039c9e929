use Rattle.std.proofs.Common.{get_or}
use Rattle.std.proofs.lemmas.Option.{slice_get-get_or}
use Rattle.sy_site.specs.declared.site.SiteInput.{SiteInput}
use Rattle.sy_fit.specs.Fit.{IsClean}
use Rattle.sy_checker.proofs.Ways.{holds_all, holds_more}
use Rattle.sy_checker.proofs.kinds.search.first_unclean.Goals as goal

abbrev no_input : SiteInput
no_input = record { relay = 0; input = 0 }

pub loop-place-preserved : goal.loop-place-preserved
loop-place-preserved c =
    holds_more (IsClean c.args.site.now c.args.class) c.args.inputs.now c.loop-place.place (get_or c.args.inputs.now c.loop-place.place no_input)
    (slice_get-get_or c.args.inputs.now c.loop-place.place no_input c.loop-place-test.true) c.in-None.ensures c.loop-place.invariant

pub returns-clause-none : goal.returns-clause-none
returns-clause-none c =
    holds_all (IsClean c.args.site.now c.args.class) c.args.inputs.now c.loop-place.place c.loop-place-test.false c.loop-place.invariant
