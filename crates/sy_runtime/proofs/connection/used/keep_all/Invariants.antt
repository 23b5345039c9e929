use Rattle.std.proofs.Common.{length}
use Rattle.sy_runtime.proofs.connection.used.keep_all.Given as goal

abbrev pub decreases-loop-node : goal.decreases-loop-node
decreases-loop-node l = length l.nodes
