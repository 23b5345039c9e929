use Rattle.std.proofs.Common.{◌≡◌, ◌∙◌, List, [], subst, sym}
use Rattle.std.specs.Prelude.{◌↔◌, Contains}
use Rattle.sy_board.specs.relay.Spares.{Scope}
use Rattle.sy_site.specs.declared.site.SiteInput.{SiteInput}
use Rattle.sy_site.specs.machine.Reach.{Reach}
use Rattle.sy_flows.proofs.Gone.{if_ok}
use Rattle.sy_flows.proofs.Unspared.{none_at_all, same_reach}
use Rattle.sy_flows.proofs.reach.reached_by_every.Goals as goal

pub returns-then-is_empty : goal.returns-then-is_empty
returns-then-is_empty c =
    let site = c.args.site.now in
    let none = none_at_all site c.spares.result.now c.spares.ensures (sym c.is_empty.ensures ∙ c.if-is_empty.true) in
    if_ok (λ copied. copied.items ≡ c.args.firm.now)
    (λ copied. (x : SiteInput) → Contains copied.items x ↔ Reach site c.args.class Scope.Every x)
    (λ copied same. same_reach site none c.args.class copied.items
    (subst (λ l. (x : SiteInput) → Contains l x ↔ Reach site c.args.class Scope.Firm x) (sym same) c.requires.firm))
    c.copy.result c.copy.ensures
