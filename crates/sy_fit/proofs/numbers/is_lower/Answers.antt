use Rattle.sy_fit.proofs.Lower.{lower_one, lower_there}
use Rattle.sy_fit.proofs.numbers.is_lower.Goals as goal

pub returns : goal.returns
returns c = (
  λ yes. lower_one c.args.site.now c.args.part.now c.args.rows.now c.args.inner c.args.number c.place_of-place.result c.place_of-place.ensures
      (c.is_lower_at.ensures.0 yes),
  λ all. c.is_lower_at.ensures.1 (lower_there c.args.site.now c.args.part.now c.args.rows.now c.args.inner c.args.number c.place_of-place.result all),
)
