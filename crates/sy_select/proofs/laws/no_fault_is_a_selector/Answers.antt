use Rattle.sy_select.proofs.Found.{selector_found}
use Rattle.sy_select.proofs.laws.no_fault_is_a_selector.Goals as goal

pub returns : goal.returns
returns c = selector_found
