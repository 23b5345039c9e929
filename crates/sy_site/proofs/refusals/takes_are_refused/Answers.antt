use Rattle.sy_site.proofs.machine.Refused as refused
use Rattle.sy_site.proofs.refusals.takes_are_refused.Goals as goal

pub returns-clause-occupied : goal.returns-clause-occupied
returns-clause-occupied c = refused.occupied

pub returns-clause-no_hand : goal.returns-clause-no_hand
returns-clause-no_hand c = refused.no_hand
