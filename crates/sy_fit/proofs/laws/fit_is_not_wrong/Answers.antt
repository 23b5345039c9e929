use Rattle.sy_fit.proofs.Uniqueness.{no_wrong_for, no_wrong_in}
use Rattle.sy_fit.proofs.laws.fit_is_not_wrong.Goals as goal

pub returns-clause-rows : goal.returns-clause-rows
returns-clause-rows c = no_wrong_in

pub returns-clause-certificate : goal.returns-clause-certificate
returns-clause-certificate c = no_wrong_for
