use Rattle.std.proofs.Common.{rules}
use Rattle.sy_outlets.specs.Left.{KeepsEach}
use Rattle.sy_outlets.proofs.LeftFrames.{at_end, keeps_more, keeps_none, so_far}
use Rattle.sy_outlets.proofs.leaving.left.keep_all.Goals as goal

pub loop-input-preserved : goal.loop-input-preserved
loop-input-preserved g c =
    so_far _ _ _ _ c.loop-input.invariant
    (λ end more. keeps_more _ _ _ _ end _ c.in-Some.input _ (search rules) c.in_default-keep_input.ensures more)

pub returns : goal.returns
returns g c = at_end _ _ _ _ c.loop-input.invariant (keeps_none _ _ _ _ (search rules))
