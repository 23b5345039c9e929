use Rattle.std.proofs.Common.{◌+◌, [], length, map, ap, ◌∙◌, arith}
use Rattle.std.proofs.lemmas.Simd.{map-map}
use Rattle.sy_rules.specs.internal.Tables.{lines_of_table}
use Rattle.sy_rules.specs.lists.Texts.{parts}
use Rattle.sy_rules.proofs.lemmas.plan.Loads.{same_lists}
use Rattle.sy_rules.proofs.lemmas.lists.SingleTables.{singles_behind}
use Rattle.sy_rules.proofs.plan.gathered.tables.Goals as goal

pub returns-clause-lines : goal.returns-clause-lines
returns-clause-lines c = λ tests.
    map-map (lines_of_table tests) (λ t. t.items) c.in_ok-found.found.items
    ∙ (c.in_ok-found.ensures tests
    ∙ same_lists _ _ _ _ tests (parts c.args.script.now.tops) (c.as_slice.ensures.value ∙ c.requires.gathered.rulesets) (c.as_slice-2.ensures.value ∙ c.requires.gathered.actions))

pub returns-clause-singles : goal.returns-clause-singles
returns-clause-singles c =
    singles_behind c.args.script.now (map (λ t. t.items) c.in_ok-found.found.items) (length c.args.gathered.now.rulesets.items + 1) (omega (arith, ap length c.requires.gathered.rulesets))
    (map-map (lines_of_table []) (λ t. t.items) c.in_ok-found.found.items
    ∙ (c.in_ok-found.ensures []
    ∙ same_lists _ _ _ _ [] (parts c.args.script.now.tops) (c.as_slice.ensures.value ∙ c.requires.gathered.rulesets) (c.as_slice-2.ensures.value ∙ c.requires.gathered.actions)))
