use Rattle.sy_site.proofs.machine.Flags.{no_own_list}
use Rattle.sy_site.proofs.machine.inputs_have_no_own_list.Goals as goal

pub returns : goal.returns
returns c = no_own_list
