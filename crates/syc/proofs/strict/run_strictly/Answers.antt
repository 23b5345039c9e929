use Rattle.std.proofs.Common.{rules}
use Rattle.syc.proofs.Accepting.{keeps_on}
use Rattle.syc.proofs.strict.run_strictly.Goals as goal

pub returns-clause-safe : goal.returns-clause-safe
returns-clause-safe g c options command words =
    keeps_on _ command c.run-status.result c.refuse_warnings_of.result (search rules) (c.run-status.ensures.safe options command words)
