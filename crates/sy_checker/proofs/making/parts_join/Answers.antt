use Rattle.sy_checker.proofs.PartsJoined.{parts_join}
use Rattle.sy_checker.proofs.making.parts_join.Goals as goal

pub returns : goal.returns
returns c = parts_join
