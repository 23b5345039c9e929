use Rattle.sy_rules.proofs.lemmas.check.FaultLaws.{first_there}
use Rattle.sy_rules.proofs.fault_laws.first_fault_is_there.Goals as goal

pub returns : goal.returns
returns c = first_there
