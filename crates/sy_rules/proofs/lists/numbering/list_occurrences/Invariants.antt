use Rattle.std.proofs.Common.{map}
use Rattle.sy_rules.proofs.lemmas.lists.Numbering.{AreListed}
use Rattle.sy_rules.proofs.lists.numbering.list_occurrences.Given as goal

abbrev pub invariant-loop-depth : goal.invariant-loop-depth
invariant-loop-depth l = AreListed l.tables l._depth (map (λ k. k.items) l.found.items)
