use Rattle.std.proofs.Common.{length}
use Rattle.std.specs.Prelude.{OnOk}
use Rattle.sy_outlets.specs.Left.{KeepsEach, KeepsFile}
use Rattle.sy_outlets.proofs.leaving.left.keep_all.Given as goal

-- where none failed, all is kept with what is left at the other inputs
abbrev pub invariant-loop-input : goal.invariant-loop-input
invariant-loop-input g l =
    OnOk l.answer
    ((end : _) → KeepsEach (KeepsFile g.T.Store.begun g.T.Store.kept) l.entries l.store l.all.items end → KeepsEach (KeepsFile g.T.Store.begun g.T.Store.kept) l.entries l.initial.store l.initial.all.items end)

abbrev pub decreases-loop-input : goal.decreases-loop-input
decreases-loop-input g l = length l.all.items
