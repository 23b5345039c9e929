use Rattle.std.proofs.Common.{◌≡◌, ◌+◌, ◌≤◌, ◌++◌, length}
use Rattle.sy_rules.specs.internal.Numbering.{count_in, numbered}
use Rattle.sy_rules.specs.internal.TableSizes.{occurrences_in}
use Rattle.sy_rules.proofs.lists.numbering.numbered.Given as goal

-- what is numbered, and what the rest will be
abbrev pub invariant-loop-rest : goal.invariant-loop-rest
invariant-loop-rest l =
    record {
      same : l.table ++ numbered (count_in l.sizes) l.number l.rest ≡ numbered (count_in l.sizes) 0 l.statements;
      few : l.number + occurrences_in (count_in l.sizes) l.rest ≤ 64;
    }

abbrev pub decreases-loop-rest : goal.decreases-loop-rest
decreases-loop-rest l = length l.rest
