use Rattle.sy_script.proofs.Cuts as law
use Rattle.sy_script.proofs.laws.one_token.Goals as goal

pub returns : goal.returns
returns c a b p q rest left x y e = law.one_token a b p q rest left x y e
