use Rattle.std.proofs.Common.{take}
use Rattle.sy_site.specs.declared.finding.Kind.TheVariants as kind
use Rattle.sy_checker.specs.internal.Survey.{Among, IsHeld, Reports}
use Rattle.sy_checker.proofs.kinds.reported.push_inner_loops.Given as goal

abbrev pub invariant-loop-input : goal.invariant-loop-input
invariant-loop-input l = Reports l.site l.fn.class (λ i j. Among (take l.input-index l.inputs) (λ input. IsHeld l.site l.fn.class input kind.InnerLoop i j))
    l.initial.found.groups.items l.found.groups.items
