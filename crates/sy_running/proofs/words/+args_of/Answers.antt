use Rattle.std.proofs.Common.{◌≡◌, [], map, sym, subst, arith}
use Rattle.sy_running.specs.Words.{AreRunArgs, no_options}
use Rattle.sy_running.proofs.RunArgs.{none_there}
use Rattle.sy_running.proofs.words.+args_of.Goals as goal

pub returns-in-empty : goal.returns-in-empty
returns-in-empty size c =
    let none : c.args.words.now ≡ [] = none_there c.args.words.now (omega (arith, c.in-empty.len_below)) in
    subst (λ words. AreRunArgs (map (λ s. s.now) words) [] no_options) (sym none) AreRunArgs.nothing
