use Rattle.sy_unread.proofs.Carried.{records_carry}
use Rattle.sy_unread.proofs.laws.records_carry_the_bytes.Goals as goal

pub returns : goal.returns
returns c = records_carry c.args.about.now c.args.bytes.now c.in_range.ensures
