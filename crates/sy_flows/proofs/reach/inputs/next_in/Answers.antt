use Rattle.std.proofs.Common.{◌<◌, ◌/◌, ◌^◌, arith}
use Rattle.sy_flows.proofs.Members.{next_is, none_at_all, none_behind}
use Rattle.sy_flows.proofs.reach.inputs.next_in.Goals as goal

pub returns-then-from-ge64-clause-none : goal.returns-then-from-ge64-clause-none
returns-then-from-ge64-clause-none c = none_at_all c.args.set c.args.from c.ranges.set.fits c.if-from-ge64.true

pub returns-then-rest-eq0-clause-none : goal.returns-then-rest-eq0-clause-none
returns-then-rest-eq0-clause-none c = none_behind c.args.set c.args.from c.if-rest-eq0.true

pub returns-clause-some : goal.returns-clause-some
returns-clause-some c =
    let apart = c.if-rest-eq0.false in
    let some : 0 < c.args.set / 2 ^ c.args.from = omega (arith, apart) in
    next_is c.args.set c.args.from c.ranges.set.fits some
