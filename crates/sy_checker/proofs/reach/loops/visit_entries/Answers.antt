use Rattle.std.proofs.Common.{get_or, length, subst, sym, ◌≤◌}
use Rattle.std.specs.Prelude.{Contains}
use Rattle.std.proofs.lemmas.List.Elements.{Contains-get_or}
use Rattle.sy_site.specs.declared.site.SiteInput.{SiteInput}
use Rattle.sy_site.specs.machine.Reach.{entry}
use Rattle.sy_checker.specs.internal.Loops.{IsTrail, way_of}
use Rattle.sy_checker.proofs.Ranking.{ranked_all, ranked_most}
use Rattle.sy_checker.proofs.Visited.{visited_all}
use Rattle.sy_checker.proofs.Trails.{first_trail}
use Rattle.sy_checker.proofs.reach.loops.visit_entries.Goals as goal

pub visit-requires-clause-trail : goal.visit-requires-clause-trail
visit-requires-clause-trail c =
    let item = get_or c.entries-entry-items.result.now c.loop-entry.entry-index (record { relay = 0; input = 0 }) in
    subst (λ w. IsTrail c.args.site.now c.args.class (way_of w) item) (sym c.loop-entry.invariant.way)
    (first_trail c.args.site.now c.args.class item
    (subst (λ l. Contains l item) c.entries-entry-items.ensures
    (Contains-get_or c.entries-entry-items.result.now c.loop-entry.entry-index (record { relay = 0; input = 0 }) c.loop-entry-test.true)))

pub visit-requires-clause-there : goal.visit-requires-clause-there
visit-requires-clause-there c =
    let item = get_or c.entries-entry-items.result.now c.loop-entry.entry-index (record { relay = 0; input = 0 }) in
    entry (subst (λ l. Contains l item) c.entries-entry-items.ensures
    (Contains-get_or c.entries-entry-items.result.now c.loop-entry.entry-index (record { relay = 0; input = 0 }) c.loop-entry-test.true))

pub returns-clause-ranks : goal.returns-clause-ranks
returns-clause-ranks c =
    let most = subst (λ l. length l ≤ c.loop-entry.entry-index) c.entries-entry-items.ensures c.loop-entry-test.false in
    ranked_all c.args.site.now c.args.class c.loop-entry.seen.done.items c.loop-entry.seen.settled.items c.loop-entry.seen.ranks.items
    c.loop-entry.invariant.ranked
    (λ e is. visited_all (λ (x : SiteInput). Unit {0}) c.args.site.now.entries c.loop-entry.entry-index c.loop-entry.seen.done.items most
    c.loop-entry.invariant.visited e is tt)

pub returns-clause-most : goal.returns-clause-most
returns-clause-most c =
    let most = subst (λ l. length l ≤ c.loop-entry.entry-index) c.entries-entry-items.ensures c.loop-entry-test.false in
    ranked_most c.args.site.now c.args.class c.loop-entry.seen.done.items c.loop-entry.seen.settled.items c.loop-entry.seen.ranks.items
    c.loop-entry.invariant.ranked
    (λ e is. visited_all (λ (x : SiteInput). Unit {0}) c.args.site.now.entries c.loop-entry.entry-index c.loop-entry.seen.done.items most
    c.loop-entry.invariant.visited e is tt)
