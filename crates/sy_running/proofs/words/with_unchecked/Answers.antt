use Rattle.std.proofs.Common.{rules}
use Rattle.sy_running.specs.Words.{AreRunArgs}
use Rattle.sy_running.proofs.words.with_unchecked.Goals as goal

pub returns : goal.returns
returns c = λ words are. AreRunArgs.unchecked (search rules) are
