use Rattle.std.proofs.Common.{◌≡◌}
use Rattle.sy_findings.specs.internal.Instances.{Adds}
use Rattle.sy_findings.proofs.verdicts.instances.push_each.Given as goal

abbrev pub invariant-loop-place : goal.invariant-loop-place
invariant-loop-place l = Adds (λ c. c ≡ l.fn.class) l.fn.input l.fn.kind l.initial.found.instances.items l.found.instances.items
