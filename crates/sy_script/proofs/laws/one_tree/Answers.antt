use Rattle.sy_script.proofs.ReadBackStmt as law
use Rattle.sy_script.proofs.laws.one_tree.Goals as goal

pub returns : goal.returns
returns c text a b is_a is_b = law.one_tree text a b is_a is_b
