use Rattle.std.proofs.Common.{◌≡◌, ◌++◌, map, drop}
use Rattle.sy_checker.specs.internal.Met.{met_at}
use Rattle.sy_checker.proofs.archives.met.push_met.Given as goal

abbrev pub invariant-loop-archive : goal.invariant-loop-archive
invariant-loop-archive l = l.met.items ++ map (met_at l.place) (drop l.archive-index l.archives) ≡ l.initial.met.items ++ map (met_at l.place) l.archives
