use Rattle.sy_runtime.proofs.Turning.{gave_up}
use Rattle.sy_runtime.proofs.connection.turns.take_all.Goals as goal

pub returns-in-Over-clause-kept : goal.returns-in-Over-clause-kept
returns-in-Over-clause-kept g c = λ read before begun. c.in-Over.ensures.kept read before (c.loop.invariant.goes read before begun)
