use Rattle.sy_fit.proofs.Uniqueness.{one_wrong_for, one_wrong_in}
use Rattle.sy_fit.proofs.laws.one_wrong_row.Goals as goal

pub returns-clause-rows : goal.returns-clause-rows
returns-clause-rows c = one_wrong_in

pub returns-clause-certificate : goal.returns-clause-certificate
returns-clause-certificate c = one_wrong_for
