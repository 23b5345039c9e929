use Rattle.std.proofs.Common.{◌∙◌, get_or, refl, sym}
use Rattle.std.proofs.lemmas.Bool.{false≢true}
use Rattle.std.proofs.lemmas.List.{get_or_default}
use Rattle.std.proofs.lemmas.List.Elements.{Contains-get_or}
use Rattle.sy_flows.specs.declared.flows.Hop.{Hop}
use Rattle.sy_fit.proofs.Comparing.{hop_below, hops_below, none_below}
use Rattle.sy_fit.proofs.ranks.falls_by.Goals as goal

no_hop : Hop
no_hop = record { number = 0; to = record { relay = 0; input = 0 } }

pub loop-hop-init : goal.loop-hop-init
loop-hop-init c = record {
  below = none_below c.args.site.now c.args.part.now c.args.rows.now c.args.rank c.args.hops.now;
  known = tt;
}

pub is_below_known-requires-clause-there : goal.is_below_known-requires-clause-there
unfolding no_hop
is_below_known-requires-clause-there c =
    c.requires.there (get_or c.args.hops.now c.loop-hop.hop-index no_hop)
    (Contains-get_or c.args.hops.now c.loop-hop.hop-index no_hop c.loop-hop-test.true)

pub loop-hop-preserved : goal.loop-hop-preserved
unfolding no_hop
loop-hop-preserved c =
    let hops = c.args.hops.now in
    let k = c.loop-hop.hop-index in
    let hop = get_or hops k no_hop in
    record {
      below = hop_below c.args.site.now c.args.part.now c.args.rows.now c.args.rank hops k hop c.loop-hop-test.true
          (get_or_default hops k no_hop hop c.loop-hop-test.true) c.loop-hop.invariant.below
          (c.is_below_known.ensures.below.0 c.if-not-is_below_known.false);
      known = c.is_below_known.ensures.known c.if-not-is_below_known.false;
    }

pub returns-then-not-is_below_known : goal.returns-then-not-is_below_known
unfolding no_hop
returns-then-not-is_below_known c = (
  λ no. absurd (false≢true no),
  λ all. absurd (false≢true (sym c.if-not-is_below_known.true
      ∙ c.is_below_known.ensures.below.1 (all (get_or c.args.hops.now c.loop-hop.hop-index no_hop)
      (Contains-get_or c.args.hops.now c.loop-hop.hop-index no_hop c.loop-hop-test.true)))),
)

pub returns : goal.returns
returns c = (
  λ yes. hops_below c.args.site.now c.args.part.now c.args.rows.now c.args.rank c.args.hops.now c.loop-hop.hop-index c.loop-hop-test.false
      c.loop-hop.invariant.below,
  λ all. refl,
)
