use Rattle.sy_fit.proofs.Comparing.{below_one, below_there}
use Rattle.sy_fit.proofs.ranks.is_below.Goals as goal

pub returns : goal.returns
returns c = (
  λ yes. below_one c.args.site.now c.args.part.now c.args.rows.now c.args.relay c.args.rank c.place_of-place.result c.place_of-place.ensures
      (c.is_below_at.ensures.0 yes),
  λ all. c.is_below_at.ensures.1 (below_there c.args.site.now c.args.part.now c.args.rows.now c.args.relay c.args.rank c.place_of-place.result all),
)
