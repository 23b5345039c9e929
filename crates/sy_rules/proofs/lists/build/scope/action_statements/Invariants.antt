use Rattle.std.proofs.Common.{◌≡◌, ◌++◌, ◌+◌, drop}
use Rattle.sy_rules.specs.internal.TextTables.{action_statements}
use Rattle.sy_rules.proofs.lists.build.scope.action_statements.Given as goal

-- the statements so far, and those of the rest
abbrev pub invariant-loop-action : goal.invariant-loop-action
invariant-loop-action l = l.statements.items ++ action_statements l.action_number l.list (drop l.action-index l.actions) ≡ action_statements 0 (l.rulesets + 1) l.actions
