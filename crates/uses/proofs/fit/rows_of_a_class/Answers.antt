use Rattle.std.proofs.Common.{subst, sym}
use Rattle.std.specs.Prelude.{◌↔◌, Contains}
use Rattle.sy_board.specs.relay.Spares.{Scope}
use Rattle.sy_site.specs.declared.site.SiteInput.{SiteInput}
use Rattle.sy_site.specs.machine.Reach.{Reach}
use Rattle.uses.proofs.fit.rows_of_a_class.Goals as goal

pub reached_by_every-requires-clause-firm : goal.reached_by_every-requires-clause-firm
reached_by_every-requires-clause-firm c =
    subst (λ l. (x : SiteInput) → Contains l x ↔ Reach c.args.site.now c.args.class Scope.Firm x) (sym c.as_slice-firm.ensures.value)
    c.in_ok-found.ensures.reached

pub wanted_rows-requires-clause-firm : goal.wanted_rows-requires-clause-firm
wanted_rows-requires-clause-firm c =
    subst (λ l. (x : SiteInput) → Contains l x ↔ Reach c.args.site.now c.args.class Scope.Firm x) (sym c.as_slice-firm.ensures.value)
    c.in_ok-found.ensures.reached

pub wanted_rows-requires-clause-every : goal.wanted_rows-requires-clause-every
wanted_rows-requires-clause-every c =
    subst (λ l. (x : SiteInput) → Contains l x ↔ Reach c.args.site.now c.args.class Scope.Every x) (sym c.as_slice.ensures.value)
    c.in_ok-every.ensures

pub sorted-requires : goal.sorted-requires
sorted-requires c = record {
  there = λ x has. c.in_ok-found.ensures.spread.there x (subst (λ l. Contains l x) c.as_slice-firm.ensures.value has);
}
