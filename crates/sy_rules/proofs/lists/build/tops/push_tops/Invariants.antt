use Rattle.std.proofs.Common.{◌≡◌, ◌++◌, drop, map}
use Rattle.sy_rules.specs.lists.Texts.{parts}
use Rattle.sy_rules.specs.internal.TextTables.{outside_table, inside_tables}
use Rattle.sy_rules.proofs.lists.build.tops.push_tops.Given as goal

-- the tables so far, and those of the rest
abbrev pub invariant-loop-top : goal.invariant-loop-top
invariant-loop-top l = record {
  outside : l.lists.outside.items ++ outside_table l.scope.rulesets.now l.scope.actions.now l.lists.counts.actions l.lists.counts.tests (parts (drop l.top-index l.tops)) ≡ outside_table l.scope.rulesets.now l.scope.actions.now 0 0 (parts l.tops);
  inside : map (λ t. t.items) l.lists.inside.items ++ inside_tables l.scope.rulesets.now l.scope.actions.now l.lists.counts.actions l.lists.counts.tests (parts (drop l.top-index l.tops)) ≡ inside_tables l.scope.rulesets.now l.scope.actions.now 0 0 (parts l.tops);
}
