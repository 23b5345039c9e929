use Rattle.std.proofs.Common.{◌≡◌, ◌≤◌, ◌+◌, length, map}
use Rattle.sy_rules.specs.parts.Plans.{place_of}
use Rattle.sy_rules.proofs.lemmas.parts.ListNames.{named_from}
use Rattle.sy_rules.proofs.parts.of_items.list_named.Given as goal

-- the name stands in the rest where it stands at all, and that begins with this list
abbrev pub invariant-loop-rest : goal.invariant-loop-rest
invariant-loop-rest l = record {
  so_far : named_from l.list (place_of l.name (map (λ r. r.name) l.rest)) ≡ named_from 1 (place_of l.name (map (λ r. r.name) l.rulesets));
  few : l.list + length l.rest ≤ 257;
}

abbrev pub decreases-loop-rest : goal.decreases-loop-rest
decreases-loop-rest l = length l.rest
