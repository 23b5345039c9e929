use Rattle.std.proofs.Common.{take}
use Rattle.std.specs.Prelude.{Contains}
use Rattle.sy_findings.specs.internal.Instances.{Adds}
use Rattle.sy_findings.proofs.verdicts.instances.push_group.Given as goal

abbrev pub invariant-loop-class : goal.invariant-loop-class
invariant-loop-class l =
    Adds (λ c. Contains (take l.class-index l.fn.group.classes.items) c) l.fn.group.input l.fn.group.kind l.initial.found.instances.items l.found.instances.items
