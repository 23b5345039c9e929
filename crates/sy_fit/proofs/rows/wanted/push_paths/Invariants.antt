use Rattle.std.proofs.Common.{◌≡◌, ◌++◌, map, drop}
use Rattle.sy_fit.specs.declared.rows.wanted.Wanted.TheVariants as wanted
use Rattle.sy_fit.proofs.rows.wanted.push_paths.Given as goal

abbrev pub invariant-loop-archive : goal.invariant-loop-archive
invariant-loop-archive l = l.part.items ++ map (λ a. wanted.Path l.entry a) (drop l.archive-index l.archives) ≡ l.initial.part.items ++ map (λ a. wanted.Path l.entry a) l.archives
