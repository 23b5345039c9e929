use Rattle.std.proofs.Common.{not, subst, sym}
use Rattle.std.specs.Prelude.{◌≢◌, Decides}
use Rattle.sy_marks.specs.declared.marks.Flow.TheVariants as flow
use Rattle.sy_board.specs.relay.Plans.{flow_of}
use Rattle.sy_fit.proofs.Feeding.{not_full}
use Rattle.sy_fit.proofs.kinds.is_not_full.Goals as goal

pub returns : goal.returns
returns c =
    subst (λ i. Decides (not c.is_full_delay.result) (flow_of i.flow ≢ flow.Full)) c.input_at.ensures
    (subst (λ b. Decides (not b) (flow_of c.input_at.result.now.flow ≢ flow.Full)) (sym c.is_full_delay.ensures) (not_full c.input_at.result.now.flow))
