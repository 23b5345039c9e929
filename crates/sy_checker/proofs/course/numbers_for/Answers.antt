use Rattle.std.proofs.Common.{subst, sym}
use Rattle.std.specs.Prelude.{◌↔◌, Contains}
use Rattle.sy_board.specs.relay.Spares.{Scope}
use Rattle.sy_site.specs.declared.site.SiteInput.{SiteInput}
use Rattle.sy_site.specs.machine.Reach.{Reach}
use Rattle.sy_checker.specs.internal.Inner.{HasNoNumbers}
use Rattle.sy_checker.proofs.course.numbers_for.Goals as goal

pub numbers_of-requires : goal.numbers_of-requires
numbers_of-requires c = record {
  there = λ x is. c.requires.spread.there x (subst (λ l. Contains l x) c.as_slice.ensures.value is);
  reached = subst (λ l. (x : SiteInput) → Contains l x ↔ Reach c.args.site.now c.args.class Scope.Firm x) (sym c.as_slice.ensures.value)
      c.requires.reached;
  flows = c.requires.flows;
}

pub unnumbered-requires-clause-none : goal.unnumbered-requires-clause-none
unnumbered-requires-clause-none c =
    subst (λ l. HasNoNumbers c.args.site.now c.args.class l c.in-Err.why) c.as_slice.ensures.value c.in-Err.ensures.none
