use Rattle.std.proofs.Common.{ap}
use Rattle.sy_endpoints.specs.Outlets.{place_of}
use Rattle.sy_endpoints.proofs.Meetings.{linked}
use Rattle.sy_endpoints.proofs.outlets.connection.Goals as goal

pub returns-in-Link-clause-some : goal.returns-in-Link-clause-some
returns-in-Link-clause-some c = linked c.args.outlet c.in-Link.host.now c.peer_of.result c.in-Link.port (ap place_of c.in-Link.is) c.peer_of.ensures
