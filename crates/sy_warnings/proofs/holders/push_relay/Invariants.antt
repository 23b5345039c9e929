use Rattle.std.proofs.Common.{◌≡◌, ◌≤◌, length}
use Rattle.sy_site.specs.Sites.{plan_at}
use Rattle.sy_warnings.specs.internal.Holders.{AreHoldersBelow}
use Rattle.sy_warnings.proofs.holders.push_relay.Given as goal

abbrev pub invariant-loop-action : goal.invariant-loop-action
invariant-loop-action l = AreHoldersBelow l.site l.relay 0 l.initial.found.items → AreHoldersBelow l.site l.relay l.action l.found.items
