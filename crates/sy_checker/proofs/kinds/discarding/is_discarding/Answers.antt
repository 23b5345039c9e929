use Rattle.std.proofs.Common.{◌≡◌, ◌∙◌, ap, arith, false, refl, sym}
use Rattle.std.specs.List.{list_any}
use Rattle.sy_site.specs.Sites.{plan_at}
use Rattle.sy_checker.specs.internal.Discarding.{discards}
use Rattle.sy_flows.proofs.Places.{more_below}
use Rattle.sy_checker.proofs.Mild.{discards_none}
use Rattle.sy_checker.proofs.kinds.discarding.is_discarding.Goals as goal

pub loop-relay-preserved : goal.loop-relay-preserved
loop-relay-preserved c =
    more_below (λ k. list_any discards (plan_at c.args.site.now k).queues ≡ false) c.loop-relay.relay
    (ap (list_any discards) (sym (c.queues.ensures ∙ ap (λ p. p.queues) (c.deref.ensures ∙ c.plan.ensures)))
    ∙ sym c.has_discarding.ensures ∙ c.if-has_discarding.false)
    c.loop-relay.invariant

pub returns : goal.returns
returns c = λ no.
    discards_none c.args.site.now c.loop-relay.relay (omega (arith, c.loop-relay-test.false, c.relays-relay-end.ensures)) c.loop-relay.invariant
