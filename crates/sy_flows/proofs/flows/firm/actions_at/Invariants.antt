use Rattle.std.proofs.Common.{◌≡◌, take}
use Rattle.sy_site.specs.Sites.{actions_at}
use Rattle.sy_flows.proofs.flows.firm.actions_at.Given as goal

abbrev pub invariant-loop-action : goal.invariant-loop-action
invariant-loop-action l = l.found.items ≡ actions_at (take l.action-index l.actions) l.fn.relay
