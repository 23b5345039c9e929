use Rattle.sy_escapes.proofs.Exact.{are_exact}
use Rattle.sy_escapes.proofs.laws.escapes_are_exact.Goals as goal

pub returns : goal.returns
returns c = are_exact
