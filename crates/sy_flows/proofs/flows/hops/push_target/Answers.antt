use Rattle.std.proofs.Common.{◌∙◌, sym}
use Rattle.sy_flows.specs.internal.Hops.{AddsHop, AddsTarget}
use Rattle.sy_flows.proofs.FoundInputs.{on_ok}
use Rattle.sy_flows.proofs.Walking.{target_push}
use Rattle.sy_flows.proofs.flows.hops.push_target.Goals as goal

pub returns-in-Some : goal.returns-in-Some
returns-in-Some c =
    on_ok (AddsHop c.args.number c.in-Some.to c.args.hops.now.items c.push_hop.new.hops.items)
    (AddsTarget c.args.site.now c.args.relay c.args.action c.args.number c.args.hops.now.items c.push_hop.new.hops.items)
    (target_push c.args.site.now c.args.relay c.args.action c.args.number c.in-Some.to c.args.hops.now.items c.push_hop.new.hops.items
    (sym c.target.ensures ∙ c.in-Some.is))
    c.push_hop.result c.push_hop.ensures
