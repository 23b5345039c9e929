use Rattle.sy_replay.proofs.Numerals.{number_is}
use Rattle.sy_replay.proofs.line.words.number.Goals as goal

pub returns : goal.returns
returns c = number_is c.args.word.now c.decimal_up_to.result c.decimal_up_to.ensures.some c.decimal_up_to.ensures.none
