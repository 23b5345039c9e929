use Rattle.sy_script.proofs.OneFault as law
use Rattle.sy_script.proofs.laws.dead_ends.Goals as goal

pub returns : goal.returns
returns c text ts front rest t end left cut is_ts refused = law.dead_ends text ts front rest t cut is_ts refused
