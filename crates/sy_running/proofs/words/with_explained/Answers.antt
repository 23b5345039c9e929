use Rattle.std.proofs.Common.{rules}
use Rattle.sy_running.specs.Words.{AreRunArgs}
use Rattle.sy_running.proofs.words.with_explained.Goals as goal

pub returns : goal.returns
returns c = λ words are. AreRunArgs.explained (search rules) are
