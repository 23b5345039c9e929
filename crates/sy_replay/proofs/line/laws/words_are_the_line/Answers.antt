use Rattle.sy_replay.proofs.LineWords.{joined}
use Rattle.sy_replay.proofs.line.laws.words_are_the_line.Goals as goal

pub returns : goal.returns
returns c = joined
