use Rattle.std.proofs.Common.{drop}
use Rattle.sy_rules.specs.lists.Texts.{front_of_body}
use Rattle.sy_rules.proofs.lemmas.lists.Pushes.{IsLeft}
use Rattle.sy_rules.proofs.lists.build.statements.+statements.Given as goal

-- the statements after this one are left
abbrev pub invariant-push_body-loop-stmt : goal.invariant-push_body-loop-stmt
invariant-push_body-loop-stmt l =
    IsLeft l.scope.rulesets.now l.scope.actions.now (front_of_body l.body) (front_of_body (drop l.stmt-index l.body)) l.initial.counts l.counts l.initial.table.items l.table.items
