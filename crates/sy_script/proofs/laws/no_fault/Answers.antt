use Rattle.sy_script.proofs.NoFault as law
use Rattle.sy_script.proofs.laws.no_fault.Goals as goal

pub returns : goal.returns
returns c text script f is stands = law.no_fault text script f is stands
