use Rattle.std.proofs.Common.{◌≡◌, ℕ, ◌≤◌, ◌+◌, ◌*◌, ◌-◌, length}
use Rattle.sy_site.specs.Sites.{plan_at}
use Rattle.sy_flows.specs.internal.Hops.{AddsLeads, AddsPosted, IsWalkedBelow, LeadsAsWell, WalksOn}
use Rattle.sy_flows.specs.Hops.{AreApart}
use Rattle.sy_flows.specs.internal.Marks.{AreListed}
use Rattle.sy_flows.proofs.flows.hops.+walk.Given as goal

-- the lists that weren't gone through
abbrev pub decreases-walk : goal.decreases-walk
decreases-walk l = 3 * (length (plan_at l.site.now l.relay).lists - length l.found.now.lists.items) + 1

abbrev pub decreases-follow : goal.decreases-follow
decreases-follow l = 3 * (length (plan_at l.site.now l.relay).lists - length l.found.now.lists.items) + 3

abbrev pub decreases-follow_one : goal.decreases-follow_one
decreases-follow_one l = 3 * (length (plan_at l.site.now l.relay).lists - length l.found.now.lists.items) + 2

abbrev pub invariant-walk-loop-at : goal.invariant-walk-loop-at
invariant-walk-loop-at l = record {
  apart : AreApart (length (plan_at l.site l.relay).lists) l.found.lists.items;
  longer : length l.initial.found.lists.items ≤ length l.found.lists.items;
  grows : WalksOn l.site l.class l.which l.relay l.initial.found.hops.items l.initial.found.lists.items l.found.hops.items l.found.lists.items;
  sound : (first : ℕ) → ((at : ℕ) → LeadsAsWell l.site l.class l.which l.relay l.list at first l.number)
      → AddsLeads l.site l.class l.which l.relay first l.number l.initial.found.hops.items l.found.hops.items;
  posted : AddsPosted l.site l.class l.which l.relay l.list l.initial.found.lists.items l.found.lists.items;
  below : IsWalkedBelow l.site l.class l.which l.relay l.found.hops.items l.found.lists.items l.list l.next;
  listed : AreListed l.found.lists.items l.found.marks.items;
}

abbrev pub decreases-walk-loop-at : goal.decreases-walk-loop-at
decreases-walk-loop-at l = 64 - l.next
