use Rattle.sy_select.proofs.Refusals as law
use Rattle.sy_select.proofs.laws.one_refusal.Goals as goal

pub returns : goal.returns
returns c found a b is_a is_b other_a other_b = law.one_refusal found a b is_a is_b other_a other_b
