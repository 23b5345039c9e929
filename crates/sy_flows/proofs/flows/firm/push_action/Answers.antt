use Rattle.std.proofs.Common.{◌≡◌, ◌∙◌, ◌++◌, [], sym, ap, append-nil}
use Rattle.sy_flows.proofs.Firmness.{action_elsewhere, action_here}
use Rattle.sy_flows.proofs.flows.firm.push_action.Goals as goal

pub returns-in_ok-push : goal.returns-in_ok-push
returns-in_ok-push c =
    c.in_ok-push.ensures.items ∙ ap (λ l. c.args.found.now.items ++ l) (sym (action_here c.args.action c.args.relay c.if-action-relay.true))

pub returns-else-action-relay : goal.returns-else-action-relay
returns-else-action-relay c =
    sym (ap (λ l. c.args.found.now.items ++ l) (action_elsewhere c.args.action c.args.relay c.if-action-relay.false) ∙ append-nil c.args.found.now.items)
