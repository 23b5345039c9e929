use Rattle.std.proofs.Common.{◌≡◌, ◌++◌, drop, map}
use Rattle.sy_rules.specs.internal.TextTables.{single_tables}
use Rattle.sy_rules.proofs.lists.build.tops.push_singles.Given as goal

-- the tables so far, and those of the rest
abbrev pub invariant-loop-action : goal.invariant-loop-action
invariant-loop-action l =
    map (λ t. t.items) l.tables.items ++ single_tables l.number (drop l.action-index l.actions) ≡ map (λ t. t.items) l.initial.tables.items ++ single_tables 0 l.actions
