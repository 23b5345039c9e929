use Rattle.sy_flowing.proofs.numbers.Heights.{no_jam, no_round}
use Rattle.sy_flowing.proofs.laws.flowing_sites_have_no_jam.Goals as goal

pub returns-clause-jam : goal.returns-clause-jam
returns-clause-jam c = no_jam

pub returns-clause-round : goal.returns-clause-round
returns-clause-round c = no_round
