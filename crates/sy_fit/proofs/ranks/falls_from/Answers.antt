use Rattle.sy_board.specs.relay.Spares.{Scope}
use Rattle.sy_site.specs.machine.Reach.{list_of}
use Rattle.sy_fit.proofs.Comparing.{falls_by_hops, hops_by_falls}
use Rattle.sy_flows.proofs.There.{reaches_there, relay_there}
use Rattle.sy_fit.proofs.ranks.falls_from.Goals as goal

pub falls_by-requires : goal.falls_by-requires
falls_by-requires c = record {
  wanted = c.requires.wanted;
  there = λ hop there.
      relay_there c.args.site.now hop.to
      (reaches_there c.args.site.now c.args.class Scope.Every c.args.from.relay (list_of c.args.site.now c.args.from) hop.number hop.to
      (c.hops_at-hops.ensures.sound hop there).1);
}

pub returns : goal.returns
returns c = (
  λ yes. falls_by_hops c.args.site.now c.args.part.now c.args.rows.now c.args.rank c.hops_at-hops.result.now c.args.class c.args.from
      c.hops_at-hops.ensures (c.falls_by.ensures.0 yes),
  λ falls. c.falls_by.ensures.1 (hops_by_falls c.args.site.now c.args.part.now c.args.rows.now c.args.rank c.hops_at-hops.result.now c.args.class
      c.args.from c.hops_at-hops.ensures falls),
)
