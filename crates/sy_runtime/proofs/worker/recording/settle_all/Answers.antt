use Rattle.std.proofs.Common.{refl, ◌∙◌}
use Rattle.sy_runtime.specs.internal.Recording.{Settled}
use Rattle.sy_runtime.proofs.Recorded.{one_more, same_plan, some_settled}
use Rattle.sy_runtime.proofs.worker.recording.settle_all.Goals as goal

pub loop-board-init : goal.loop-board-init
loop-board-init c = record { settled = Settled.none; plan = refl }

pub loop-board-preserved-in-Ok-Some : goal.loop-board-preserved-in-Ok-Some
loop-board-preserved-in-Ok-Some c = record {
  settled = one_more _ _ _ _ _ _ _ c.loop-board.invariant.settled c.in-Ok-Some.ensures.ok;
  plan = same_plan _ _ _ _ _ c.in-Ok-Some.ensures.ok ∙ c.loop-board.invariant.plan;
}

pub loop-board-preserved : goal.loop-board-preserved
loop-board-preserved c = record {
  settled = one_more _ _ _ _ _ _ _ c.loop-board.invariant.settled c.in-Ok-None.ensures.ok;
  plan = same_plan _ _ _ _ _ c.in-Ok-None.ensures.ok ∙ c.loop-board.invariant.plan;
}

pub returns-in-Err-clause-err : goal.returns-in-Err-clause-err
returns-in-Err-clause-err c = some_settled _ _ _ _ _ _ _ c.loop-board.invariant.settled c.in-Err.ensures.unchanged.0 c.in-Err.ensures.err
