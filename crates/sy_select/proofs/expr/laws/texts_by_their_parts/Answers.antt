use Rattle.sy_select.proofs.ExprLaws.{contains_parts, starts_parts, empty_parts}
use Rattle.sy_select.proofs.expr.laws.texts_by_their_parts.Goals as goal

pub returns : goal.returns
returns c = record { contains = contains_parts; startswith = starts_parts; empty = empty_parts }
