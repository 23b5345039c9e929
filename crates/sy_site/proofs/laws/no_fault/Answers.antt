use Rattle.sy_site.proofs.lemmas.texts.NoFault.{no_fault}
use Rattle.sy_site.proofs.laws.no_fault.Goals as goal

pub returns : goal.returns
returns c = no_fault
