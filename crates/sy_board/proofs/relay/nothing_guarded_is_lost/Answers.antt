use Rattle.sy_board.proofs.relay.Guards.{guarding_start, guarding_step, unasked, within_guard}
use Rattle.sy_board.proofs.relay.nothing_guarded_is_lost.Goals as goal

pub returns-clause-opening : goal.returns-clause-opening
returns-clause-opening c = guarding_start

pub returns-clause-step : goal.returns-clause-step
returns-clause-step c plan guard old event new outs may is step = guarding_step plan guard may old event new outs is step

pub returns-clause-within : goal.returns-clause-within
returns-clause-within c plan guard state may is = within_guard plan guard may state is

pub returns-clause-unasked : goal.returns-clause-unasked
returns-clause-unasked c = unasked
