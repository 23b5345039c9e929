use Rattle.std.proofs.Common.{length}
use Rattle.sy_running.proofs.words.+args_of.Given as goal

abbrev pub decreases-args_of : goal.decreases-args_of
decreases-args_of l = length l.words.now
