use Rattle.std.proofs.Common.{◌∙◌, sym}
use Rattle.sy_commands.proofs.Courses.{status_fails}
use Rattle.sy_commands.proofs.replay.stop_replay.Goals as goal

pub returns-clause-reported : goal.returns-clause-reported
returns-clause-reported g c = rw (← c.out.view_is) c.report_halt_by_options.ensures.reported

pub returns-clause-failed : goal.returns-clause-failed
returns-clause-failed g c = λ none. status_fails c.args.halt.now (sym c.report_halt_by_options.ensures.status ∙ none)
