use Rattle.sy_board.proofs.relay.Opening.{opening_patient}
use Rattle.sy_board.proofs.relay.Patience.{patient_step}
use Rattle.sy_board.proofs.relay.patience_stays.Goals as goal

pub returns-clause-opening : goal.returns-clause-opening
returns-clause-opening c = opening_patient

pub returns-clause-step : goal.returns-clause-step
returns-clause-step c = patient_step
