use Rattle.std.proofs.Common.{subst, sym}
use Rattle.std.specs.Prelude.{◌↔◌, Contains}
use Rattle.sy_board.specs.relay.Spares.{Scope}
use Rattle.sy_site.specs.declared.site.SiteInput.{SiteInput}
use Rattle.sy_site.specs.machine.Reach.{Reach}
use Rattle.sy_flows.proofs.Walked.{walk_read}
use Rattle.sy_fit.proofs.verifying.judge_next.Goals as goal

pub judge_class-requires-clause-firm : goal.judge_class-requires-clause-firm
judge_class-requires-clause-firm c =
    let is = walk_read c.args.site.now c.args.class c.walk_for.new.walks.items c.in_ok-place.place c.index-walk.result.now c.in_ok-place.ensures.at
    c.index-walk.ensures in
    subst (λ l. (x : SiteInput) → Contains l x ↔ Reach c.args.site.now c.args.class Scope.Firm x) (sym c.as_slice.ensures.value) is.firm

pub judge_class-requires-clause-every : goal.judge_class-requires-clause-every
judge_class-requires-clause-every c =
    let is = walk_read c.args.site.now c.args.class c.walk_for.new.walks.items c.in_ok-place.place c.index-walk.result.now c.in_ok-place.ensures.at
    c.index-walk.ensures in
    subst (λ l. (x : SiteInput) → Contains l x ↔ Reach c.args.site.now c.args.class Scope.Every x) (sym c.as_slice-2.ensures.value) is.every
