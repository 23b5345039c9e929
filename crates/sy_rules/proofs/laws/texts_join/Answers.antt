use Rattle.sy_rules.proofs.lemmas.lists.WorkLaws.{joined_occurrences, joined_tests}
use Rattle.sy_rules.proofs.laws.texts_join.Goals as goal

pub returns-clause-occurrences : goal.returns-clause-occurrences
returns-clause-occurrences c = joined_occurrences

pub returns-clause-tests : goal.returns-clause-tests
returns-clause-tests c = joined_tests
