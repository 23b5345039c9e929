use Rattle.sy_script.proofs.OneFault as law
use Rattle.sy_script.proofs.laws.one_misplaced.Goals as goal

pub returns : goal.returns
returns c text a b n m is_a is_b = law.one_misplaced text a b n m is_a is_b
