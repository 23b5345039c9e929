use Rattle.std.proofs.Common.{rules, ◌∙◌, sym}
use Rattle.sy_running.specs.Words.{AreRunArgs}
use Rattle.sy_running.proofs.RunArgs.{none_seen}
use Rattle.sy_running.proofs.words.with_left.Goals as goal

pub returns : goal.returns
returns c = λ words are.
    AreRunArgs.left c.args.file.now (search rules)
    (none_seen (λ file. file.now) c.args.args.left (sym c.is_some.ensures ∙ c.if-is_some.false)) are
