use Rattle.sy_rules.specs.lists.Work.{valuation_of}
use Rattle.sy_rules.proofs.lemmas.lists.WorkLaws.{of_the_list, may_of_the_list}
use Rattle.sy_rules.proofs.laws.work_is_of_the_list.Goals as goal

pub returns-clause-work : goal.returns-clause-work
returns-clause-work c s m k h = of_the_list s (valuation_of s m) k h

pub returns-clause-may : goal.returns-clause-may
returns-clause-may c = may_of_the_list
