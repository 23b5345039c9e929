use Rattle.std.proofs.Common.{get_or, take}
use Rattle.std.proofs.lemmas.List.Elements.{Contains-get_or}
use Rattle.sy_flows.specs.internal.Hops.{HasHop}
use Rattle.sy_flows.proofs.FoundInputs.{all_hops, more_hops, none_hops}
use Rattle.sy_flows.proofs.Rooted.{leads_origin, stands_still}
use Rattle.sy_flows.proofs.reach.add_targets.Goals as goal

pub loop-hop-preserved : goal.loop-hop-preserved
loop-hop-preserved c =
    let own = c.hops_at-own.result.now in
    let k = c.loop-hop.hop-index in (
      more_hops own k (record { number = 0; to = record { relay = 0; input = 0 } }) c.args.found.now.inputs.items c.loop-hop.found.inputs.items
          c.add.new.found.inputs.items c.loop-hop-test.true c.loop-hop.invariant.0 c.in_ok-add.ensures.inputs,
      λ start here rooted. c.in_ok-add.ensures.roots c.args.site.now c.args.class c.args.which start
          (leads_origin c.args.site.now c.args.class c.args.which start c.loop-hop.found.inputs.items c.args.from c.args.place own
          (get_or own k (record { number = 0; to = record { relay = 0; input = 0 } })) c.hops_at-own.ensures
          (Contains-get_or own k (record { number = 0; to = record { relay = 0; input = 0 } }) c.loop-hop-test.true)
          (stands_still (HasHop (take k own)) c.args.found.now.inputs.items c.loop-hop.found.inputs.items c.loop-hop.invariant.0 c.args.place c.args.from here))
          (c.loop-hop.invariant.1 start here rooted),
      c.in_ok-add.ensures.marked,
    )

pub returns-clause-inputs : goal.returns-clause-inputs
returns-clause-inputs c =
    all_hops c.args.site.now c.args.class c.args.which c.args.from c.hops_at-own.result.now c.loop-hop.hop-index c.args.found.now.inputs.items
    c.loop-hop.found.inputs.items c.hops_at-own.ensures c.loop-hop-test.false c.loop-hop.invariant.0
