use Rattle.sy_rules.proofs.lemmas.check.FaultLaws.{parts_given, parts_listed}
use Rattle.sy_rules.proofs.laws.parts_are_listed.Goals as goal

pub returns-clause-listed : goal.returns-clause-listed
returns-clause-listed c = parts_listed

pub returns-clause-given : goal.returns-clause-given
returns-clause-given c = parts_given
