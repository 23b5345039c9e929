use Rattle.sy_fit.proofs.Guarded.{all_reached}
use Rattle.sy_fit.proofs.verifying.judge_class.Goals as goal

pub returns-clause-pairs : goal.returns-clause-pairs
returns-clause-pairs c =
    all_reached c.args.site.now c.args.class c.args.pairs.now.items c.push_pairs.new.pairs.items c.args.firm.now c.judge.result
    c.requires.firm c.in_ok-push_pairs.ensures
