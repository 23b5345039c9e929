use Rattle.sy_script.proofs.Depths.{stmt_fits, stmt_within, tops_fits, tops_within}
use Rattle.sy_script.proofs.laws.depths.Goals as goal

pub returns-clause-statement : goal.returns-clause-statement
returns-clause-statement c text left n x ts rest d = (stmt_within, stmt_fits n d)

pub returns-clause-script : goal.returns-clause-script
returns-clause-script c text left n x ts d = (tops_within, tops_fits n d)
