use Rattle.std.proofs.Common.{subst}
use Rattle.std.specs.Prelude.{Contains}
use Rattle.sy_board.specs.relay.Spares.{Scope}
use Rattle.sy_flows.specs.declared.flows.executed.Executed.TheVariants as executed
use Rattle.sy_flows.specs.Search.{IsSpread}
use Rattle.sy_flows.proofs.Gone.{reach_spread}
use Rattle.sy_flows.proofs.There.{entry_there}
use Rattle.sy_flows.proofs.reach.spread_every.Goals as goal

pub spread-requires : goal.spread-requires
spread-requires c = record {
  hops = c.requires.flows.every;
  there = λ x is. entry_there c.args.site.now c.is_lawful.ensures x (subst (λ l. Contains l x) c.entries.ensures is);
}

pub returns : goal.returns
returns c =
    reach_spread c.args.site.now c.args.class Scope.Every c.in_ok-found.found.inputs.items c.in_ok-found.found.origins.items
    (subst (λ l. IsSpread c.args.site.now c.args.class executed.Every l c.in_ok-found.found.inputs.items c.in_ok-found.found.origins.items)
    c.entries.ensures c.in_ok-found.ensures)
