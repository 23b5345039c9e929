use Rattle.sy_endpoints.specs.Outlets.{ConnectsTo}
use Rattle.sy_endpoints.proofs.outlets.address_of.Goals as goal

pub returns-in-Ok-clause-some : goal.returns-in-Ok-clause-some
returns-in-Ok-clause-some c = ConnectsTo.address c.args.target.now c.args.port c.in-Ok.address c.in-Ok.ensures
