use Rattle.sy_checker.proofs.Heights.{height_by_hops}
use Rattle.sy_checker.proofs.reach.height.height.Goals as goal

pub returns : goal.returns
returns c =
    height_by_hops c.args.site.now c.args.class c.args.ranks.now c.args.from c.hops_at.result.now c.height_of.result c.hops_at.ensures
    c.height_of.ensures
