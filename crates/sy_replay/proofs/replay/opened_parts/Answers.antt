use Rattle.std.proofs.Common.{◌∙◌, ◌∷◌, ◌++◌, [], ap, arith, map, take}
use Rattle.sy_site.specs.Sites.{Relay}
use Rattle.sy_replay.specs.Held.{opened_part}
use Rattle.sy_replay.proofs.Replays.{one_more_part}
use Rattle.sy_replay.proofs.replay.opened_parts.Goals as goal

pub loop-relay-preserved : goal.loop-relay-preserved
loop-relay-preserved c =
    let below = c.loop-relay-test.true in
    let all = c.loop-relay.invariant.all in
    record {
      made = c.in_ok-push.ensures.items ∙ ap (λ ps. ps ++ c.in_ok-new.field-0 ∷ []) c.loop-relay.invariant.made
          ∙ ap (λ p. map (λ (r : Relay). opened_part r.plan) (take c.loop-relay.relay c.args.site.now.relays) ++ p ∷ []) (c.in_ok-new.ensures ∙ ap opened_part (c.in_ok-plan.ensures ∙ c.plan.ensures))
          ∙ one_more_part c.args.site.now.relays c.loop-relay.relay (omega (arith, below, all));
      all = all;
      within = omega (arith, below);
    }
