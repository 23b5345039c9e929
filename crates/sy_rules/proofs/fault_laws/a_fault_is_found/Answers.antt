use Rattle.sy_rules.proofs.lemmas.check.FaultLaws.{found_where_there}
use Rattle.sy_rules.proofs.fault_laws.a_fault_is_found.Goals as goal

pub returns : goal.returns
returns c = found_where_there
