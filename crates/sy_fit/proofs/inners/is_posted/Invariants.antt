use Rattle.std.proofs.Common.{take}
use Rattle.sy_fit.specs.internal.Inners.{IsPosted}
use Rattle.sy_fit.proofs.inners.is_posted.Given as goal

abbrev pub invariant-loop-input : goal.invariant-loop-input
invariant-loop-input l = IsPosted l.site l.class (take l.input-index l.inputs) l.list → ⊥
