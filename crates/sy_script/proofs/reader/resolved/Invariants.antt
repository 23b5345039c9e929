use Rattle.std.proofs.Common.{◌≡◌, ◌++◌, length}
use Rattle.sy_script.proofs.reader.resolved.Given as goal
use Rattle.sy_script.specs.Terms.{resolved}

abbrev pub invariant-loop-rest : goal.invariant-loop-rest
invariant-loop-rest l = l.bytes ++ resolved l.rest ≡ resolved l.inner

abbrev pub decreases-loop-rest : goal.decreases-loop-rest
decreases-loop-rest l = length l.rest
