use Rattle.std.proofs.Common.{◌∙◌, ap, map}
use Rattle.std.proofs.lemmas.Result.{IfOk-weaker}
use Rattle.sy_rules.specs.internal.Tables.{lines_of_table}
use Rattle.sy_rules.specs.lists.Texts.{parts}
use Rattle.sy_rules.proofs.lemmas.lists.Encoding.{tables_are_lists, map_twice}
use Rattle.sy_rules.proofs.lists.build.build.Goals as goal

pub returns : goal.returns
returns c =
    IfOk-weaker c.tables.result _ _
    (λ tables is tests.
    map_twice (λ t. t.items) (lines_of_table tests) tables.items
    ∙ (ap (map (lines_of_table tests)) is
    ∙ tables_are_lists (record { rulesets = c.args.rulesets.now; actions = c.args.actions.now; tests = tests }) (parts c.args.script.now.tops)))
    c.tables.ensures
