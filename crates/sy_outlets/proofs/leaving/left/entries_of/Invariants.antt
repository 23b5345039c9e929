use Rattle.std.proofs.Common.{◌≡◌, ◌++◌, length}
use Rattle.sy_outlets.proofs.leaving.left.entries_of.Given as goal

-- each entry is taken or still to be taken
abbrev pub invariant-loop-node : goal.invariant-loop-node
invariant-loop-node l = l.entries.items ++ l.left ≡ l.initial.left

abbrev pub decreases-loop-node : goal.decreases-loop-node
decreases-loop-node l = length l.left
