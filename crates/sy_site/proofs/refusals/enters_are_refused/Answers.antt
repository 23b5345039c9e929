use Rattle.std.proofs.Common.{arith}
use Rattle.sy_site.proofs.machine.Marked.{held_enter}
use Rattle.sy_site.proofs.machine.Refused as refused
use Rattle.sy_site.proofs.refusals.enters_are_refused.Goals as goal

pub returns-clause-full : goal.returns-clause-full
returns-clause-full c = refused.full

pub returns-clause-held : goal.returns-clause-held
returns-clause-held c = λ class. held_enter class 2 (omega arith)
