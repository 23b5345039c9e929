use Rattle.std.proofs.Common.{rules}
use Rattle.sy_running.specs.Words.{AreRunArgs, IsPeriod}
use Rattle.sy_running.proofs.words.with_metrics_every.Goals as goal

pub returns : goal.returns
returns c = λ words are.
    let is : IsPeriod c.args.word.now c.in_ok-seconds.seconds = search rules in
    AreRunArgs.metrics_every c.args.word.now c.in_ok-seconds.seconds is (search rules) are
