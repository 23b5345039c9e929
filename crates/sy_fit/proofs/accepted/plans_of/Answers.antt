use Rattle.std.proofs.Common.{◌∙◌, ◌∷◌, ◌++◌, [], ap, arith, map, take}
use Rattle.std.specs.Arc.{arc_value}
use Rattle.std.proofs.lemmas.List.{map-append}
use Rattle.sy_site.specs.Sites.{Relay}
use Rattle.sy_fit.proofs.Guarded.{one_more_plan}
use Rattle.sy_fit.proofs.accepted.plans_of.Goals as goal

pub loop-relay-preserved : goal.loop-relay-preserved
loop-relay-preserved c =
    let below = c.loop-relay-test.true in
    let all = c.loop-relay.invariant.all in
    record {
      made = ap (map arc_value) c.in_ok-push.ensures.items ∙ map-append arc_value c.loop-relay.plans.items (c.in_ok-plan.plan ∷ [])
          ∙ ap (λ ps. ps ++ arc_value c.in_ok-plan.plan ∷ []) c.loop-relay.invariant.made
          ∙ ap (λ p. map (λ (r : Relay). r.plan) (take c.loop-relay.relay c.args.site.now.relays) ++ p ∷ []) (c.in_ok-plan.ensures ∙ c.plan.ensures)
          ∙ one_more_plan c.args.site.now.relays c.loop-relay.relay (omega (arith, below, all));
      all = all;
      within = omega (arith, below);
    }
