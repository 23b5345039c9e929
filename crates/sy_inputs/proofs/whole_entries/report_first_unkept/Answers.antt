use Rattle.std.proofs.Common.{sym}
use Rattle.sy_inputs.proofs.whole_entries.report_first_unkept.Goals as goal

pub returns-clause-reported : goal.returns-clause-reported
returns-clause-reported g c = rw (sym c.from.ensures) c.report_input.ensures
