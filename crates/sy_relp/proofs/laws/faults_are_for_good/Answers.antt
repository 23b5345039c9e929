use Rattle.sy_relp.proofs.Dead.{faulty_is_dead}
use Rattle.sy_relp.proofs.Goings.{goes_on_has_none}
use Rattle.sy_relp.proofs.laws.faults_are_for_good.Goals as goal

pub returns-clause-waits : goal.returns-clause-waits
returns-clause-waits c = goes_on_has_none

pub returns-clause-fails : goal.returns-clause-fails
returns-clause-fails c = faulty_is_dead
