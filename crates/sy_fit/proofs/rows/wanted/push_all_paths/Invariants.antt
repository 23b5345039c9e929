use Rattle.std.proofs.Common.{◌≡◌, ◌++◌, map, drop}
use Rattle.std.specs.Prelude.{flat_map}
use Rattle.sy_fit.specs.declared.rows.wanted.Wanted.TheVariants as wanted
use Rattle.sy_fit.proofs.rows.wanted.push_all_paths.Given as goal

abbrev pub invariant-loop-entry : goal.invariant-loop-entry
invariant-loop-entry l =
    l.part.items ++ flat_map (λ entry. map (λ a. wanted.Path entry a) l.archives) (drop l.entry-index l.entries)
    ≡ l.initial.part.items ++ flat_map (λ entry. map (λ a. wanted.Path entry a) l.archives) l.entries
