use Rattle.sy_waits.specs.internal.Groups.{AreGroupsBelow}
use Rattle.sy_waits.proofs.groups.groups_of.Given as goal

abbrev pub invariant-loop-number : goal.invariant-loop-number
invariant-loop-number l = AreGroupsBelow l.site l.number l.groups.items
