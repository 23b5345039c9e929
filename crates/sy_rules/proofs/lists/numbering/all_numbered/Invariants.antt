use Rattle.std.proofs.Common.{◌≡◌, ◌++◌, length, map}
use Rattle.sy_rules.specs.internal.Numbering.{count_in, numbered, AreFew}
use Rattle.sy_rules.proofs.lists.numbering.all_numbered.Given as goal

abbrev pub invariant-loop-rest : goal.invariant-loop-rest
invariant-loop-rest l =
    let number = numbered (count_in l.sizes) 0 in
    record {
      same : l.all.items ++ map number (map (λ table. table.items) l.rest) ≡ map number (map (λ table. table.items) l.tables);
      few : AreFew (count_in l.sizes) (map (λ table. table.items) l.rest);
    }

abbrev pub decreases-loop-rest : goal.decreases-loop-rest
decreases-loop-rest l = length l.rest
