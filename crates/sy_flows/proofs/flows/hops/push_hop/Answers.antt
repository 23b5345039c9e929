use Rattle.std.proofs.Common.{◌∙◌, ◌∷◌, ◌++◌, [], ap, subst, sym}
use Rattle.std.specs.List.{list_any}
use Rattle.sy_flows.specs.internal.Hops.{AddsHop}
use Rattle.sy_flows.specs.declared.flows.Hop.{Hop}
use Rattle.sy_flows.specs.Members.{same_input}
use Rattle.sy_flows.proofs.Walking.{hop_had, hop_push}
use Rattle.sy_flows.proofs.flows.hops.push_hop.Goals as goal

pub returns-then-is_there : goal.returns-then-is_there
returns-then-is_there c =
    hop_had c.args.hops.now.items c.args.number c.args.to
    (ap (list_any (λ (hop : Hop). same_input c.args.to hop.to)) (sym c.as_slice.ensures.value) ∙ sym c.is_there.ensures ∙ c.if-is_there.true)

pub returns : goal.returns
returns c =
    subst (AddsHop c.args.number c.args.to c.args.hops.now.items) (sym c.in_ok-push.ensures.items) (hop_push c.args.hops.now.items c.args.number c.args.to)
