use Rattle.sy_warnings.proofs.Blocking.{action_done}
use Rattle.sy_warnings.proofs.holders.push_action.Goals as goal

pub returns : goal.returns
returns c =
    action_done c.args.site.now c.args.relay c.args.action c.args.found.now.items c.push_worker.new.found.items c.push_bottleneck.new.found.items
    c.in_ok-push_worker.ensures c.in_ok-push_bottleneck.ensures
