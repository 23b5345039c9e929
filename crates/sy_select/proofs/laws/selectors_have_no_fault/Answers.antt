use Rattle.sy_select.proofs.GrammarLaws.{no_faults}
use Rattle.sy_select.proofs.laws.selectors_have_no_fault.Goals as goal

pub returns : goal.returns
returns c = no_faults
