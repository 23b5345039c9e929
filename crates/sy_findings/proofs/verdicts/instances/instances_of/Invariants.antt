use Rattle.std.proofs.Common.{take}
use Rattle.sy_findings.specs.Instances.{AreInstances}
use Rattle.sy_findings.proofs.verdicts.instances.instances_of.Given as goal

abbrev pub invariant-loop-group : goal.invariant-loop-group
invariant-loop-group l = AreInstances (take l.group-index l.groups) l.found.instances.items
