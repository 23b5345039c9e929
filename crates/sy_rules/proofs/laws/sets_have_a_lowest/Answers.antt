use Rattle.sy_rules.proofs.lemmas.lists.Lowest.{lowest_of, one_left, one_lowest}
use Rattle.sy_rules.proofs.laws.sets_have_a_lowest.Goals as goal

pub returns-clause-there : goal.returns-clause-there
returns-clause-there c = lowest_of

pub returns-clause-one : goal.returns-clause-one
returns-clause-one c set m n left rest a b = (one_lowest set m n left rest a b, one_left set m n left rest a b)
