use Rattle.std.proofs.Common.{refl}
use Rattle.sy_fit.proofs.Comparing.{known_below}
use Rattle.sy_fit.proofs.ranks.is_below_known.Goals as goal

pub returns-then-is_known-clause-below : goal.returns-then-is_known-clause-below
returns-then-is_known-clause-below c = (
  λ yes. known_below c.args.site.now c.args.part.now c.args.rows.now c.args.rank c.args.known.now c.args.relay c.requires.known
      (c.is_known.ensures.0 c.if-is_known.true),
  λ all. refl,
)
