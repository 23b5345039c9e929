use Rattle.sy_rules.proofs.lemmas.items.TestLaws.{actions_of_tops, calls_of_tops, rulesets_of_tops, tests_of_tops}
use Rattle.sy_rules.proofs.laws.texts_have_the_items.Goals as goal

pub returns-clause-tests : goal.returns-clause-tests
returns-clause-tests c script = tests_of_tops script.tops

pub returns-clause-actions : goal.returns-clause-actions
returns-clause-actions c script = actions_of_tops script.tops

pub returns-clause-calls : goal.returns-clause-calls
returns-clause-calls c script = calls_of_tops script.tops

pub returns-clause-rulesets : goal.returns-clause-rulesets
returns-clause-rulesets c script = rulesets_of_tops script.tops
