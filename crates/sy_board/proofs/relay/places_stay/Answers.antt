use Rattle.sy_board.proofs.relay.Shapes.{shape_step}
use Rattle.sy_board.proofs.relay.places_stay.Goals as goal

pub returns : goal.returns
returns c = shape_step
