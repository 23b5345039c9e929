use Rattle.std.proofs.Common.{eqb-true}
use Rattle.sy_rules.proofs.lemmas.lists.ClassVerdicts.{all_either}
use Rattle.sy_rules.proofs.lists.condition.Verdicts.are_free.Goals as goal

pub returns-then-self-eq0 : goal.returns-then-self-eq0
returns-then-self-eq0 c = λ full. all_either c.args.self c.if-self-eq0.true (eqb-true c.args.self.possible 255 full)
