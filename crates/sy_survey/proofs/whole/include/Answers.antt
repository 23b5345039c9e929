use Rattle.sy_survey.specs.Together as spec
use Rattle.sy_survey.proofs.whole.include.Goals as goal

pub loop-init : goal.loop-init
loop-init g c = spec.Together.alone

pub returns-in-None : goal.returns-in-None
returns-in-None g c = spec.Together.more c.loop.invariant c.in_ok-next.ensures

pub loop-preserved : goal.loop-preserved
loop-preserved g c = spec.Together.more c.loop.invariant c.in_ok-next.ensures
