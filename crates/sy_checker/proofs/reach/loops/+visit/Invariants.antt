use Rattle.std.proofs.Common.{◌≡◌, ◌+◌, ◌*◌, ◌-◌, length, take}
use Rattle.std.specs.Prelude.{Contains}
use Rattle.sy_site.specs.declared.site.SiteInput.{SiteInput}
use Rattle.sy_checker.specs.internal.Loops.{AreFollowed, AreRanked, DoesMore, IsMet, relays_of, way_of}
use Rattle.sy_checker.proofs.reach.loops.+visit.Given as goal

-- the relays that aren't on the way
abbrev pub decreases-visit : goal.decreases-visit
decreases-visit l = 4 * (length l.site.now.relays - length l.seen.now.way.items) + 3

abbrev pub decreases-go : goal.decreases-go
decreases-go l = 4 * (length l.site.now.relays - length l.seen.now.way.items) + 1

abbrev pub decreases-visit_relay : goal.decreases-visit_relay
decreases-visit_relay l = 4 * (length l.site.now.relays - length l.seen.now.way.items) + 4

abbrev pub invariant-visit-loop-hop : goal.invariant-visit-loop-hop
invariant-visit-loop-hop l = record {
  way : l.seen.way.items ≡ l.initial.seen.way.items;
  ranked : AreRanked l.site l.class l.seen.done.items l.seen.settled.items l.seen.ranks.items;
  more : DoesMore (IsMet (way_of l.initial.seen.way.items) l.from) l.initial.seen.done.items l.seen.done.items;
  followed : AreFollowed l.site l.class l.seen.done.items (take l.hop-index l.hop-items);
}

abbrev pub invariant-visit_relay-loop-input : goal.invariant-visit_relay-loop-input
invariant-visit_relay-loop-input l = record {
  way : l.seen.way.items ≡ l.initial.seen.way.items;
  ranked : AreRanked l.site l.class l.seen.done.items l.seen.settled.items l.seen.ranks.items;
  more : DoesMore (Contains (relays_of (way_of l.initial.seen.way.items))) l.initial.seen.done.items l.seen.done.items;
  visited : (x : SiteInput) → Contains (take l.input-index l.reached) x → x.relay ≡ l.first.relay → Contains l.seen.done.items x;
}
