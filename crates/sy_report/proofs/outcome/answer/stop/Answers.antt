use Rattle.sy_report.proofs.outcome.answer.stop.Goals as goal

pub returns-clause-reported : goal.returns-clause-reported
returns-clause-reported g c = rw (← c.out.view_is) c.report_halt.ensures
