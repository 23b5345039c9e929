use Rattle.std.proofs.Common.{◌≡◌, ◌<◌, Some, true, arith, length, refl, subst, sym}
use Rattle.std.specs.Prelude.{slice_get}
use Rattle.std.proofs.lemmas.Option.{slice_get_read}
use Rattle.sy_site.specs.Sites.{plan_at}
use Rattle.sy_site.specs.machine.Reach.{list_of}
use Rattle.sy_flows.specs.Hops.{AreHops, is_input_list}
use Rattle.sy_flows.proofs.There.{relay_there}
use Rattle.sy_flows.proofs.Used.{input_list}
use Rattle.sy_flows.proofs.flows.hops.hops_at.Goals as goal

pub returns : goal.returns
returns c =
    let relay = c.args.input.relay in
    let list = c.list_at-list.result in
    let low = relay_there c.args.site.now c.args.input c.requires.there in
    let many = c.requires.hops.length_is in
    let at_relay : slice_get c.args.hops.now.relays.items relay ≡ Some c.index-relay.result.now =
    slice_get_read c.args.hops.now.relays.items (length c.args.hops.now.relays.items) relay c.index-relay.result.now refl (omega (arith, low, many))
    c.index-relay.ensures in
    let own = c.requires.hops.each relay c.index-relay.result.now at_relay in
    let there = c.list_at-list.ensures.there in
    let count = own.length_is in
    let at_list : slice_get c.index-relay.result.now.lists.items list ≡ Some c.index.result.now =
    slice_get_read c.index-relay.result.now.lists.items (length c.index-relay.result.now.lists.items) list c.index.result.now refl
    (omega (arith, there, count)) c.index.ensures in
    let used : is_input_list (plan_at c.args.site.now relay) list ≡ true =
    subst (λ l. is_input_list (plan_at c.args.site.now relay) l ≡ true) (sym c.list_at-list.ensures.list)
    (input_list c.args.site.now c.args.input c.requires.there) in
    subst (AreHops c.args.site.now c.args.class c.args.which relay (list_of c.args.site.now c.args.input)) (sym c.as_slice.ensures.value)
    (subst (λ l. AreHops c.args.site.now c.args.class c.args.which relay l c.index.result.now.hops.items) c.list_at-list.ensures.list
    (own.each list c.index.result.now at_list used).hops)
