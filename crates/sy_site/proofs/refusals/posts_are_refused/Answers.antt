use Rattle.std.proofs.Common.{arith}
use Rattle.sy_site.proofs.machine.Holding as holding
use Rattle.sy_site.proofs.machine.Refused as refused
use Rattle.sy_site.proofs.refusals.posts_are_refused.Goals as goal

pub returns-clause-full : goal.returns-clause-full
returns-clause-full c = refused.filled

pub returns-clause-held : goal.returns-clause-held
returns-clause-held c = λ class. holding.held_post class 2 (omega arith)

pub returns-clause-room : goal.returns-clause-room
returns-clause-room c = refused.lost

pub returns-clause-held_full : goal.returns-clause-held_full
returns-clause-held_full c = λ class. holding.held_full class 1 (omega arith)

pub returns-clause-memory : goal.returns-clause-memory
returns-clause-memory c = λ class. holding.no_memory class 2 (omega arith)
