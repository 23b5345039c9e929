use Rattle.std.proofs.Common.{subst}
use Rattle.sy_rules.specs.internal.Verdicts.{IsFree}
use Rattle.sy_rules.proofs.lists.condition.Condition.is_free.Goals as goal

pub returns : goal.returns
returns c = subst (λ x. IsFree x c.self.inside.free) c.self.view_is c.self.invariant.1
