use Rattle.std.proofs.Common.{inr, refl}
use Rattle.sy_checker.proofs.course.clean_up_to.Goals as goal

pub returns-else-is_discarding : goal.returns-else-is_discarding
returns-else-is_discarding c = inr (refl, c.is_discarding.ensures c.if-is_discarding.false)
