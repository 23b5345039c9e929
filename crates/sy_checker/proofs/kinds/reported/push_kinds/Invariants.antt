use Rattle.std.proofs.Common.{take}
use Rattle.sy_checker.specs.internal.Survey.{Among, IsHeld, Reports}
use Rattle.sy_checker.proofs.kinds.reported.push_kinds.Given as goal

abbrev pub invariant-loop-kind : goal.invariant-loop-kind
invariant-loop-kind l = Reports l.site l.fn.class (λ i j. Among (take l.kind-index l.kinds) (λ k. IsHeld l.site l.fn.class l.fn.input k i j))
    l.initial.found.groups.items l.found.groups.items
