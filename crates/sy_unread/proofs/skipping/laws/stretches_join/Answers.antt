use Rattle.sy_unread.proofs.Skipped.{stretches_join}
use Rattle.sy_unread.proofs.skipping.laws.stretches_join.Goals as goal

pub returns : goal.returns
returns c = stretches_join
