use Rattle.sy_rules.proofs.lemmas.check.FaultLaws.{plan_without_faults}
use Rattle.sy_rules.proofs.fault_laws.plan_without_faults.Goals as goal

pub returns : goal.returns
returns c = plan_without_faults
