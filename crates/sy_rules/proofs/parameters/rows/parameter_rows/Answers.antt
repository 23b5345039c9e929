use Rattle.std.proofs.Common.{◌++◌, refl, append-nil}
use Rattle.sy_rules.proofs.parameters.rows.parameter_rows.Goals as goal

pub returns : goal.returns
returns c = rw (c.own_rows.ensures, c.destination_rows.ensures, c.queue_head_rows.ensures, c.queue_rest_rows.ensures, append-nil) refl
