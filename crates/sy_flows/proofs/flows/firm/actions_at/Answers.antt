use Rattle.std.proofs.Common.{◌≡◌, ◌∙◌, ◌++◌, ◌∷◌, [], get_or, take, sym, ap}
use Rattle.std.proofs.lemmas.List.{take_all, take_more}
use Rattle.sy_site.specs.Sites.{actions_at}
use Rattle.sy_flows.proofs.Firmness.{actions_append}
use Rattle.sy_flows.proofs.flows.firm.actions_at.Goals as goal

pub loop-action-preserved : goal.loop-action-preserved
loop-action-preserved c =
    let xs = c.args.actions.now in
    let k = c.loop-action.action-index in
    let item = get_or xs k (record { relay = 0; action = 0 }) in
    c.in_ok-push_action.ensures
    ∙ ap (λ l. l ++ actions_at (item ∷ []) c.args.relay) c.loop-action.invariant
    ∙ sym (actions_append (take k xs) (item ∷ []) c.args.relay)
    ∙ ap (λ l. actions_at l c.args.relay) (sym (take_more xs k (record { relay = 0; action = 0 }) c.loop-action-test.true))

pub returns : goal.returns
returns c =
    c.loop-action.invariant ∙ ap (λ l. actions_at l c.args.relay) (take_all c.loop-action.action-index c.args.actions.now c.loop-action-test.false)
