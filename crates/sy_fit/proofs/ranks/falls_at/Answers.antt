use Rattle.std.proofs.Common.{◌∙◌, subst, sym}
use Rattle.sy_fit.specs.internal.Ranked.{FallsFrom}
use Rattle.sy_fit.proofs.Comparing.{is_about, one_value}
use Rattle.sy_fit.proofs.ranks.falls_at.Goals as goal

pub falls_from-requires : goal.falls_from-requires
falls_from-requires c = record {
  wanted = c.requires.wanted;
  flows = c.requires.flows;
  there = c.requires.there c.in-Reach.from (is_about c.args.is c.in-Reach.from c.in-Reach.is);
}

pub returns-else-from-relay : goal.returns-else-from-relay
returns-else-from-relay c = (
  λ yes from same of. subst (FallsFrom c.args.site.now c.args.class c.args.part.now c.args.rows.now c.args.rank)
      (one_value (sym (is_about c.args.is c.in-Reach.from c.in-Reach.is) ∙ same)) (c.falls_from.ensures.0 yes),
  λ falls. c.falls_from.ensures.1 (falls c.in-Reach.from (is_about c.args.is c.in-Reach.from c.in-Reach.is) c.if-from-relay.false),
)
