use Rattle.std.proofs.Common.{◌∙◌}
use Rattle.sy_passing.proofs.Ready.{opens}
use Rattle.sy_passing.proofs.pass.new_board.Goals as goal

pub returns : goal.returns
returns c = opens _ _ (c.in-Ok-new.ensures.ok ∙ c.in-Ok.ensures.value) c.new-2.ensures
