use Rattle.sy_site.proofs.machine.Refused as refused
use Rattle.sy_site.proofs.refusals.dones_are_refused.Goals as goal

pub returns-clause-idle : goal.returns-clause-idle
returns-clause-idle c = refused.idle

pub returns-clause-post : goal.returns-clause-post
returns-clause-post c = refused.post
