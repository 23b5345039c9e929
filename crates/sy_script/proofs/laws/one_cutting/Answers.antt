use Rattle.sy_script.proofs.Cuts as law
use Rattle.sy_script.proofs.laws.one_cutting.Goals as goal

pub returns : goal.returns
returns c text a b are_a are_b = law.one_cutting text a b are_a are_b
