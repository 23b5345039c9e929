use Rattle.sy_drawing.proofs.Classes.{NoneBelow}
use Rattle.sy_drawing.proofs.class.class_named.Given as goal

abbrev pub invariant-loop-number : goal.invariant-loop-number
invariant-loop-number l = NoneBelow l.fn.name l.number
