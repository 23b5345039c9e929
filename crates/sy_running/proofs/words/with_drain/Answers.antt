use Rattle.std.proofs.Common.{rules}
use Rattle.sy_running.specs.Words.{AreRunArgs, IsSeconds}
use Rattle.sy_running.proofs.words.with_drain.Goals as goal

pub returns : goal.returns
returns c = λ words are.
    let is : IsSeconds c.args.word.now c.in_ok-seconds.seconds = search rules in
    AreRunArgs.drain c.args.word.now c.in_ok-seconds.seconds is (search rules) are
