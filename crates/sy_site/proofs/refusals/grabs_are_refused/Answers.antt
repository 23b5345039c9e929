use Rattle.sy_site.proofs.machine.Refused as refused
use Rattle.sy_site.proofs.refusals.grabs_are_refused.Goals as goal

pub returns-clause-busy : goal.returns-clause-busy
returns-clause-busy c = refused.busy

pub returns-clause-empty : goal.returns-clause-empty
returns-clause-empty c = refused.empty
