use Rattle.std.proofs.Common.{take}
use Rattle.sy_checker.specs.internal.Survey.{Among, AreHeld, Reports}
use Rattle.sy_checker.proofs.kinds.reported.push_inputs.Given as goal

abbrev pub invariant-loop-input : goal.invariant-loop-input
invariant-loop-input l = Reports l.site l.fn.class (λ i j. Among (take l.input-index l.inputs) (λ input. AreHeld l.site l.fn.class input i j))
    l.initial.found.groups.items l.found.groups.items
