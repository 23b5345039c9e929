use Rattle.std.proofs.Common.{◌≡◌, ◌∙◌, Some, ap, map, subst}
use Rattle.std.proofs.lemmas.List.{take_all}
use Rattle.sy_rules.specs.PlanValue.{Plan}
use Rattle.sy_site.specs.internal.SiteInside.{inputs_of, relay_of, site_with, targets_in}
use Rattle.sy_site.specs.Sites.{target_of}
use Rattle.sy_site.proofs.lemmas.sites.Targets.{map_more}
use Rattle.sy_site.proofs.site.targets.targets_of.Goals as goal

pub loop-relay-preserved : goal.loop-relay-preserved
loop-relay-preserved c =
    ap (map inputs_of) c.in_ok-push.ensures.items
    ∙ map_more inputs_of (λ relay. targets_in (site_with c.args.relays.now) (relay_of relay)) c.loop-relay.targets.items c.args.relays.now
    c.loop-relay.relay-index c.in_ok-of_relay.of_relay c.relay-item.result c.loop-relay-test.true c.relay-item.is
    (c.in_ok-of_relay.ensures
    ∙ ap (map (λ action. target_of (site_with c.args.relays.now) (Some action))) c.actions.ensures
    ∙ ap (λ (p : Plan). map (λ action. target_of (site_with c.args.relays.now) (Some action)) p.actions) c.deref.ensures)
    c.loop-relay.invariant

pub returns : goal.returns
returns c =
    subst (λ l. map inputs_of c.loop-relay.targets.items ≡ map (λ relay. targets_in (site_with c.args.relays.now) (relay_of relay)) l)
    (take_all c.loop-relay.relay-index c.args.relays.now c.loop-relay-test.false) c.loop-relay.invariant
