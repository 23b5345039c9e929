use Rattle.sy_site.proofs.machine.Refused as refused
use Rattle.sy_site.proofs.refusals.failures_are_refused.Goals as goal

pub returns-clause-early : goal.returns-clause-early
returns-clause-early c = refused.early

pub returns-clause-late : goal.returns-clause-late
returns-clause-late c = refused.late
