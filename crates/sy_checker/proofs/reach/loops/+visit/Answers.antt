use Rattle.std.proofs.Common.{◌≡◌, ◌<◌, ◌+◌, ◌-◌, ◌*◌, ◌++◌, ◌∷◌, [], get_or, length, take, rules, arith, ap, inl, sym, subst, ◌∙◌}
use Rattle.std.specs.Prelude.{Contains}
use Rattle.std.specs.List.{list_any}
use Rattle.std.proofs.lemmas.Bool.{false≢true}
use Rattle.std.proofs.lemmas.List.{get_or_default, length_push}
use Rattle.std.proofs.lemmas.List.Elements.{Contains-get_or, Contains-push}
use Rattle.std.proofs.lemmas.Map.Views.{Contains-from_any}
use Rattle.sy_site.specs.declared.site.SiteInput.{SiteInput}
use Rattle.sy_board.specs.relay.Spares.{Scope}
use Rattle.sy_site.specs.machine.Reach.{Reach, onward}
use Rattle.sy_flows.specs.Members.{same_input}
use Rattle.sy_flows.specs.declared.flows.Hop.{Hop}
use Rattle.sy_checker.specs.declared.reach.loops.Seen.{Seen}
use Rattle.sy_checker.specs.internal.Loops.{AreRanked, DoesMore, IsDone, IsHeight, IsMet, IsTrail, rank_at, relays_of, way_of}
use Rattle.sy_fit.specs.internal.Ranked.{GoesOn}
use Rattle.sy_flows.proofs.FoundInputs.{not_among, same_is}
use Rattle.sy_checker.proofs.Ranking.{follows_all, follows_more, fresh_still, more_and, more_as, more_by_one, raised, ranked_as, ranked_more, ranks_small, settled_more}
use Rattle.sy_flows.proofs.There.{reach_there, relay_there}
use Rattle.sy_checker.proofs.Visited.{met_decides, visited_all, visited_more}
use Rattle.sy_checker.proofs.Trails.{loops_as_found, met_on, room, trail_as_found}
use Rattle.sy_checker.proofs.reach.loops.+visit.Goals.{visit_relay-else-input-first, visit_relay-then-input-first+in_ok-visit-2}
use Rattle.sy_checker.proofs.reach.loops.+visit.Goals as goal

-- ---- an input

pub visit-returns-then-is_among-clause-done : goal.visit-returns-then-is_among-clause-done
visit-returns-then-is_among-clause-done t c =
    Contains-from_any same_is c.args.from c.args.seen.now.done.items
    (ap (list_any (same_input c.args.from)) (sym c.as_slice.ensures.value) ∙ sym c.is_among.ensures ∙ c.if-is_among.true)

pub visit-hops_at-hop-items-requires : goal.visit-hops_at-hop-items-requires
visit-hops_at-hop-items-requires t c = record {
  hops = c.requires.flows.every;
  there = reach_there c.args.site.now c.is_lawful.ensures c.args.class Scope.Every c.args.from c.requires.there;
}

pub visit-loop-hop-preserved : goal.visit-loop-hop-preserved
visit-loop-hop-preserved t c =
    let hops = c.hops_at-hop-items.result.now in
    let k = c.loop-hop.hop-index in
    let none : Hop = record { number = 0; to = record { relay = 0; input = 0 } } in
    let hop = get_or hops k none in
    let more = subst (λ w. DoesMore (IsMet (way_of w) c.args.from) c.loop-hop.seen.done.items c.go.new.seen.done.items)
    c.loop-hop.invariant.way c.in_ok-go.ensures.more in
    record {
      way = subst (λ l. c.go.new.seen.way.items ≡ l) c.loop-hop.invariant.way c.in_ok-go.ensures.way;
      ranked = c.in_ok-go.ensures.ranked;
      more = more_and (IsMet (way_of c.args.seen.now.way.items) c.args.from) c.args.seen.now.done.items c.loop-hop.seen.done.items
          c.go.new.seen.done.items c.loop-hop.invariant.more more;
      followed = follows_more c.args.site.now c.args.class hops (IsMet (way_of c.args.seen.now.way.items) c.args.from) c.loop-hop.seen.done.items
          c.go.new.seen.done.items k hop c.loop-hop-test.true (get_or_default hops k none hop c.loop-hop-test.true) more
          c.loop-hop.invariant.followed c.in_ok-go.ensures.done;
    }

pub visit-go-requires : goal.visit-go-requires
visit-go-requires t c =
    let hops = c.hops_at-hop-items.result.now in
    let k = c.loop-hop.hop-index in
    let none : Hop = record { number = 0; to = record { relay = 0; input = 0 } } in
    let hop = get_or hops k none in
    let goes : GoesOn c.args.site.now c.args.class c.args.from hop.number hop.to =
    (c.hops_at-hop-items.ensures.sound hop (Contains-get_or hops k none c.loop-hop-test.true)).1 in
    let long : length c.loop-hop.seen.way.items ≡ length c.args.seen.now.way.items = ap length c.loop-hop.invariant.way in
    let falls : 4 * (length c.args.site.now.relays - length c.loop-hop.seen.way.items) + 1
    < 4 * (length c.args.site.now.relays - length c.args.seen.now.way.items) + 3 = omega (arith, long) in
    let trail : IsTrail c.args.site.now c.args.class (way_of c.loop-hop.seen.way.items) c.args.from =
    subst (λ w. IsTrail c.args.site.now c.args.class (way_of w) c.args.from) (sym c.loop-hop.invariant.way) c.requires.trail in
    search (rules, falls, trail, goes)

pub visit-height-height-requires-clause-there : goal.visit-height-height-requires-clause-there
visit-height-height-requires-clause-there t c = reach_there c.args.site.now c.is_lawful.ensures c.args.class Scope.Every c.args.from c.requires.there

pub visit-height-height-requires-clause-small : goal.visit-height-height-requires-clause-small
visit-height-height-requires-clause-small t c = λ relay.
    subst (λ l. rank_at l relay < 4294967295) (sym c.as_slice-2.ensures.value)
    (ranks_small c.args.site.now c.is_lawful.ensures c.args.class c.loop-hop.seen.done.items c.loop-hop.seen.settled.items
    c.loop-hop.seen.ranks.items c.loop-hop.invariant.ranked relay)

pub visit-settle-requires : goal.visit-settle-requires
visit-settle-requires t c =
    let low = relay_there c.args.site.now c.args.from (reach_there c.args.site.now c.is_lawful.ensures c.args.class Scope.Every c.args.from c.requires.there) in
    let many = c.loop-hop.invariant.ranked.many in
    record { there = omega (arith, low, many) }

pub visit-returns-clause-ranked : goal.visit-returns-clause-ranked
visit-returns-clause-ranked t c =
    let before = c.args.seen.now.done.items in
    let done = c.loop-hop.seen.done.items in
    let settled = c.loop-hop.seen.settled.items in
    let ranks = c.loop-hop.seen.ranks.items in
    let height = c.height-height.result in
    let fresh = fresh_still (way_of c.args.seen.now.way.items) c.args.from before done c.loop-hop.invariant.more
    (not_among before c.args.from
    (ap (list_any (same_input c.args.from)) (sym c.as_slice.ensures.value) ∙ sym c.is_among.ensures ∙ c.if-is_among.false)) in
    let followed = follows_all c.args.site.now c.args.class c.hops_at-hop-items.result.now c.args.from done c.loop-hop.hop-index c.loop-hop-test.false
    c.hops_at-hop-items.ensures c.loop-hop.invariant.followed in
    ranked_as c.args.site.now c.args.class (done ++ c.args.from ∷ []) c.settle.new.seen.done.items settled c.settle.new.seen.settled.items
    (raised ranks c.args.from.relay height) c.settle.new.seen.ranks.items c.in_ok-settle.ensures.done c.in_ok-settle.ensures.settled
    c.in_ok-settle.ensures.ranks
    (ranked_more c.args.site.now c.is_lawful.ensures c.args.class done settled ranks c.loop-hop.invariant.ranked c.args.from c.requires.there height
    (subst (λ l. IsHeight c.args.site.now c.args.class l c.args.from height) c.as_slice-2.ensures.value c.height-height.ensures) fresh followed)

pub visit-returns-clause-more : goal.visit-returns-clause-more
visit-returns-clause-more t c =
    let on = Contains (relays_of (way_of c.args.seen.now.way.items)) in
    let done = c.loop-hop.seen.done.items in
    subst (DoesMore on c.args.seen.now.done.items) (sym c.in_ok-settle.ensures.done)
    (more_and on c.args.seen.now.done.items done (done ++ c.args.from ∷ [])
    (more_as (IsMet (way_of c.args.seen.now.way.items) c.args.from) on (λ relay is. inl is) c.args.seen.now.done.items done c.loop-hop.invariant.more)
    (more_by_one on done c.args.from c.requires.trail.new))

pub visit-returns-clause-done : goal.visit-returns-clause-done
visit-returns-clause-done t c =
    subst (λ l. Contains l c.args.from) (sym c.in_ok-settle.ensures.done) (Contains-push c.loop-hop.seen.done.items c.args.from)

-- ---- a hop

pub go-returns-then-is_on-clause-halted : goal.go-returns-then-is_on-clause-halted
go-returns-then-is_on-clause-halted t c =
    loops_as_found c.args.site.now c.args.class c.args.seen.now.way.items c.go_on.new.way.items c.args.row c.args.to c.in_ok-go_on.ensures
    c.requires.there c.requires.goes c.requires.trail
    (subst (λ l. Contains (relays_of (way_of l)) c.args.to.relay) c.as_slice.ensures.value
    ((met_decides c.as_slice.result.now c.args.to.relay c.is_on.result c.is_on.ensures).0 c.if-is_on.true))

pub go-visit_relay-requires : goal.go-visit_relay-requires
go-visit_relay-requires t c =
    let low = room c.args.site.now c.is_lawful.ensures c.args.class c.args.seen.now.way.items c.args.row.input c.requires.trail c.requires.there in
    let long : length c.go_on.new.way.items ≡ length c.args.seen.now.way.items + 1 =
    ap length c.in_ok-go_on.ensures ∙ length_push c.args.seen.now.way.items c.args.row in
    let falls : 4 * (length c.args.site.now.relays - length c.go_on.new.way.items) + 4
    < 4 * (length c.args.site.now.relays - length c.args.seen.now.way.items) + 1 = omega (arith, low, long) in
    let trail : (x : SiteInput) → x.relay ≡ c.args.to.relay → IsTrail c.args.site.now c.args.class (way_of c.go_on.new.way.items) x =
    trail_as_found c.args.site.now c.args.class c.args.seen.now.way.items c.go_on.new.way.items c.args.row c.args.to c.in_ok-go_on.ensures
    c.requires.there c.requires.goes c.is_lawful.ensures c.requires.trail
    (λ met. false≢true (sym c.if-is_on.false
    ∙ (met_decides c.as_slice.result.now c.args.to.relay c.is_on.result c.is_on.ensures).1 (subst (λ l. Contains (relays_of (way_of l)) c.args.to.relay) (sym c.as_slice.ensures.value) met))) in
    let there : Reach c.args.site.now c.args.class Scope.Every c.args.to = onward c.args.row.number c.requires.there c.requires.goes in
    search (rules, falls, trail, there)

pub go-returns-clause-more : goal.go-returns-clause-more
go-returns-clause-more t c =
    more_as (Contains (relays_of (way_of c.go_on.new.way.items))) (IsMet (way_of c.args.seen.now.way.items) c.args.row.input)
    (met_on c.args.site.now c.args.class c.args.seen.now.way.items c.go_on.new.way.items c.args.row c.args.to c.in_ok-go_on.ensures
    c.requires.there c.requires.goes)
    c.args.seen.now.done.items c.visit_relay.new.seen.done.items c.in_ok-visit_relay.ensures.more

-- ---- a relay

pub visit_relay-returns-then-is_settled-clause-done : goal.visit_relay-returns-then-is_settled-clause-done
visit_relay-returns-then-is_settled-clause-done t c =
    c.requires.ranked.all_done c.args.first.relay
    (subst (λ l. Contains l c.args.first.relay) c.as_slice.ensures.value (c.is_settled.ensures.0 c.if-is_settled.true))

pub visit_relay-visit-requires-then-input-first : goal.visit_relay-visit-requires-then-input-first
visit_relay-visit-requires-then-input-first t c =
    let item = get_or c.args.reached.now c.loop-input.input-index (record { relay = 0; input = 0 }) in
    let way = c.loop-input.invariant.way ∙ c.in_ok-visit.ensures.way in
    let long : length c.loop-input.seen.way.items ≡ length c.args.seen.now.way.items = ap length way in
    let falls : 4 * (length c.args.site.now.relays - length c.loop-input.seen.way.items) + 3
    < 4 * (length c.args.site.now.relays - length c.args.seen.now.way.items) + 4 = omega (arith, long) in
    let trail : IsTrail c.args.site.now c.args.class (way_of c.loop-input.seen.way.items) item =
    subst (λ w. IsTrail c.args.site.now c.args.class (way_of w) item) (sym way) (c.requires.trail item c.if-input-first.true) in
    let there : Reach c.args.site.now c.args.class Scope.Every item =
    (c.requires.reached item).0 (Contains-get_or c.args.reached.now c.loop-input.input-index (record { relay = 0; input = 0 }) c.loop-input-test.true) in
    search (rules, falls, trail, there)

pub visit_relay-loop-input-preserved : goal.visit_relay-loop-input-preserved
visit_relay-loop-input-preserved t c =
    let site = c.args.site.now in
    let class = c.args.class in
    let reached = c.args.reached.now in
    let place = c.loop-input.input-index in
    let none : SiteInput = record { relay = 0; input = 0 } in
    let item = get_or reached place none in
    let first = c.visit.new.seen in
    let before = c.loop-input.seen.done.items in
    let on = Contains (relays_of (way_of first.way.items)) in
    let is_at = λ (x : SiteInput). x.relay ≡ c.args.first.relay in
    let is = get_or_default reached place none item c.loop-input-test.true in
    elim c.if-input-first.branch [
      | visit_relay-then-input-first+in_ok-visit-2 w ↦
          let new = w.visit-then-input-first.new.seen in
          let more = subst (λ l. DoesMore (Contains (relays_of (way_of l))) before new.done.items) c.loop-input.invariant.way w.in_ok-visit-2.ensures.more in
          record {
            way = ap (λ (s : Seen). s.way.items) w.seen-is ∙ w.in_ok-visit-2.ensures.way ∙ c.loop-input.invariant.way;
            ranked = subst (λ (s : Seen). AreRanked site class s.done.items s.settled.items s.ranks.items) (sym w.seen-is)
                w.in_ok-visit-2.ensures.ranked;
            more = subst (λ (s : Seen). DoesMore on first.done.items s.done.items) (sym w.seen-is)
                (more_and on first.done.items before new.done.items c.loop-input.invariant.more more);
            visited = subst
                (λ (s : Seen). (x : SiteInput) → Contains (take (place + 1) reached) x → x.relay ≡ c.args.first.relay → Contains s.done.items x)
                (sym w.seen-is)
                (visited_more is_at reached place item before new.done.items c.loop-input-test.true is more.kept c.loop-input.invariant.visited
                (λ at. w.in_ok-visit-2.ensures.done));
          }
      | visit_relay-else-input-first w ↦
          record {
            way = ap (λ (s : Seen). s.way.items) w.seen-is ∙ c.loop-input.invariant.way;
            ranked = subst (λ (s : Seen). AreRanked site class s.done.items s.settled.items s.ranks.items) (sym w.seen-is) c.loop-input.invariant.ranked;
            more = subst (λ (s : Seen). DoesMore on first.done.items s.done.items) (sym w.seen-is) c.loop-input.invariant.more;
            visited = subst
                (λ (s : Seen). (x : SiteInput) → Contains (take (place + 1) reached) x → x.relay ≡ c.args.first.relay → Contains s.done.items x)
                (sym w.seen-is)
                (visited_more is_at reached place item before before c.loop-input-test.true is (λ x had. had) c.loop-input.invariant.visited
                (λ at. absurd (w.if-input-first.false at)));
          }
    ]

pub visit_relay-returns-clause-ranked : goal.visit_relay-returns-clause-ranked
visit_relay-returns-clause-ranked t c =
    let done = c.loop-input.seen.done.items in
    let settled = c.loop-input.seen.settled.items in
    let ranks = c.loop-input.seen.ranks.items in
    let all : IsDone c.args.site.now c.args.class done c.args.first.relay = λ x same at.
    visited_all (λ (y : SiteInput). y.relay ≡ c.args.first.relay) c.args.reached.now c.loop-input.input-index done c.loop-input-test.false
    c.loop-input.invariant.visited x ((c.requires.reached x).1 at) same in
    ranked_as c.args.site.now c.args.class done c.settle_relay.new.seen.done.items (settled ++ c.args.first.relay ∷ []) c.settle_relay.new.seen.settled.items
    ranks c.settle_relay.new.seen.ranks.items c.in_ok-settle_relay.ensures.done c.in_ok-settle_relay.ensures.settled c.in_ok-settle_relay.ensures.ranks
    (settled_more c.args.site.now c.args.class done settled ranks c.args.first.relay c.loop-input.invariant.ranked all)

pub visit_relay-returns-clause-more : goal.visit_relay-returns-clause-more
visit_relay-returns-clause-more t c =
    let on = Contains (relays_of (way_of c.args.seen.now.way.items)) in
    let first = c.visit.new.seen.done.items in
    let done = c.loop-input.seen.done.items in
    subst (DoesMore on c.args.seen.now.done.items) (sym c.in_ok-settle_relay.ensures.done)
    (more_and on c.args.seen.now.done.items first done c.in_ok-visit.ensures.more
    (subst (λ w. DoesMore (Contains (relays_of (way_of w))) first done) c.in_ok-visit.ensures.way c.loop-input.invariant.more))

pub visit_relay-returns-clause-done : goal.visit_relay-returns-clause-done
visit_relay-returns-clause-done t c = λ x same at.
    subst (λ l. Contains l x) (sym c.in_ok-settle_relay.ensures.done)
    (visited_all (λ (y : SiteInput). y.relay ≡ c.args.first.relay) c.args.reached.now c.loop-input.input-index c.loop-input.seen.done.items
    c.loop-input-test.false c.loop-input.invariant.visited x ((c.requires.reached x).1 at) same)
