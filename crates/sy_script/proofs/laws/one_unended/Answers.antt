use Rattle.sy_script.proofs.OneEnding as law
use Rattle.sy_script.proofs.laws.one_unended.Goals as goal

pub returns : goal.returns
returns c text a b n m is_a is_b = law.one_unended text a b n m is_a is_b
