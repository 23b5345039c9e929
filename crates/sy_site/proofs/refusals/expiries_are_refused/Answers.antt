use Rattle.std.proofs.Common.{arith}
use Rattle.sy_site.proofs.machine.Marked.{held_expiry}
use Rattle.sy_site.proofs.machine.Refused as refused
use Rattle.sy_site.proofs.refusals.expiries_are_refused.Goals as goal

pub returns-clause-room : goal.returns-clause-room
returns-clause-room c = refused.room

pub returns-clause-held : goal.returns-clause-held
returns-clause-held c = λ class. held_expiry class 1 (omega arith)
