use Rattle.sy_flows.proofs.Firmness.{as_it_was, with_bit}
use Rattle.sy_flows.proofs.flows.firm.with.Goals as goal

pub returns-then-not-asked : goal.returns-then-not-asked
returns-then-not-asked c = as_it_was c.args.set c.args.number c.args.asked c.if-not-asked.true

pub returns : goal.returns
returns c = with_bit c.args.set c.args.number c.args.asked c.requires.small c.if-not-asked.false
