use Rattle.std.proofs.Common.{drop}
use Rattle.sy_fit.proofs.Paths.{Goes}
use Rattle.sy_fit.proofs.path.is_path_from.Given as goal

abbrev pub invariant-loop-number : goal.invariant-loop-number
invariant-loop-number l = Goes l.site l.fn.class l.fn.archive l.fn.from l.occurrences l.at (drop l.number-index l.occurrences)
