use Rattle.std.proofs.Common.{rules}
use Rattle.sy_outlets.proofs.LeftFrames.{keeps_nothing, keeps_one}
use Rattle.sy_outlets.proofs.leaving.left.keep_input.Goals as goal

pub returns-then-not-has_entry : goal.returns-then-not-has_entry
returns-then-not-has_entry g c = keeps_nothing _ _ _ _ (search rules) (search rules)

pub returns-in-Ok-keep : goal.returns-in-Ok-keep
returns-in-Ok-keep g c =
    let w = c.in_default-write_input.ensures in
    keeps_one _ _ _ _ _ _ _ _ w.0 c.in-Ok.ensures.begun c.in-Ok.ensures.empty w.1 w.2 c.in-Ok-keep.ensures
