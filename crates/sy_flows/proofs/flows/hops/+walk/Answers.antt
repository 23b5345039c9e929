use Rattle.std.proofs.Common.{◌≡◌, ℕ, ◌<◌, ◌≤◌, ◌+◌, ◌-◌, ◌*◌, ◌++◌, ◌∷◌, [], Some, true, length, rules, arith, inl, ap, subst, sym, ◌∙◌}
use Rattle.std.specs.Prelude.{Contains, OnOk}
use Rattle.std.proofs.lemmas.Bool.{false≢true}
use Rattle.std.proofs.lemmas.List.{length_push}
use Rattle.std.proofs.lemmas.List.Elements.{Contains-push}
use Rattle.sy_rules.specs.declared.lists.occurrence.Occurrence.{Occurrence}
use Rattle.sy_rules.specs.declared.lists.occurrence.Occurrence.TheVariants as occurrence
use Rattle.sy_site.specs.Sites.{plan_at}
use Rattle.sy_site.specs.machine.Reach.{occurrence_at}
use Rattle.sy_flows.specs.Flows.{Does, is_used}
use Rattle.sy_flows.specs.internal.Hops.{AddsLeads, AddsLists, AddsPosted, AddsTarget, IsFollowed, WalksOn, follows_posts}
use Rattle.sy_flows.specs.Hops.{AreApart}
use Rattle.sy_flows.proofs.FoundInputs.{on_ok}
use Rattle.sy_flows.proofs.Posted.{lists_added, lists_of, posted_by}
use Rattle.sy_flows.proofs.Used.{posted_there, posted_used}
use Rattle.sy_flows.proofs.Walking.{all_walked, apart_room, leads_added, leads_post, list_done, more_apart, more_walked, none_walked, one_value, run_grows, run_sound, stays_there, walks_on}
use Rattle.sy_flows.proofs.flows.hops.+walk.Goals as goal

-- ---- a list

pub walk-loop-at-init : goal.walk-loop-at-init
walk-loop-at-init t c =
    let many = length (plan_at c.args.site.now c.args.relay).lists in
    let lists = c.args.found.now.lists.items in
    let fresh : Contains lists c.args.list → ⊥ = λ there. false≢true (sym c.if-is_walked.false ∙ c.is_walked.ensures.1 there) in
    record {
      apart = subst (AreApart many) (sym c.in_ok-push_list.ensures.items) (more_apart many lists c.args.list c.requires.apart fresh c.requires.there);
      longer = omega arith;
      grows = stays_there c.args.site.now c.args.class c.args.which c.args.relay c.args.found.now.hops.items c.push_list.new.lists.items;
      sound = λ first leads hop is. inl is;
      posted = λ to is. inl is;
      below = none_walked c.args.site.now c.args.class c.args.which c.args.relay c.args.found.now.hops.items c.push_list.new.lists.items c.args.list;
      listed = c.in_ok-push_list.ensures.listed;
    }

pub walk-follow-requires : goal.walk-follow-requires
walk-follow-requires t c =
    let many = length (plan_at c.args.site.now c.args.relay).lists in
    let lists = c.args.found.now.lists.items in
    let fresh : Contains lists c.args.list → ⊥ = λ there. false≢true (sym c.if-is_walked.false ∙ c.is_walked.ensures.1 there) in
    let room : length lists < many = apart_room many lists c.args.list c.requires.apart fresh c.requires.there in
    let one : length c.push_list.new.lists.items ≡ length lists + 1 = ap length c.in_ok-push_list.ensures.items ∙ length_push lists c.args.list in
    let longer = c.loop-at.invariant.longer in
    let falls : 3 * (length (plan_at c.args.site.now c.args.relay).lists - length c.loop-at.found.lists.items) + 3
    < 3 * (length (plan_at c.args.site.now c.args.relay).lists - length c.args.found.now.lists.items) + 1 = omega (arith, room, one, longer) in
    let does : (is : Occurrence) → occurrence_at c.args.site.now c.args.relay c.args.list c.in-Some.at ≡ Some is
    → Does c.args.site.now c.args.class c.args.which c.args.relay c.args.list c.in-Some.at is =
    λ is here. c.set_at-set.ensures.sound c.in-Some.at is c.in-Some.ensures.some.member here in
    let apart = c.loop-at.invariant.apart in
    let listed = c.loop-at.invariant.listed in
    search (rules, falls, does, apart, listed)

pub walk-loop-at-preserved : goal.walk-loop-at-preserved
walk-loop-at-preserved t c =
    let before = c.loop-at.found in
    let after = c.follow.new.found in
    let long = c.loop-at.invariant.longer in
    let more = c.in_ok-follow.ensures.longer in
    record {
      apart = c.in_ok-follow.ensures.apart;
      longer = omega (arith, long, more);
      grows = walks_on c.args.site.now c.args.class c.args.which c.args.relay c.args.found.now.hops.items before.hops.items after.hops.items
          c.push_list.new.lists.items before.lists.items after.lists.items c.loop-at.invariant.grows c.in_ok-follow.ensures.grows;
      sound = λ first leads. leads_added c.args.site.now c.args.class c.args.which c.args.relay first c.args.number c.args.found.now.hops.items
          before.hops.items after.hops.items (c.loop-at.invariant.sound first leads) (c.in_ok-follow.ensures.sound first (leads c.in-Some.at));
      posted = lists_added c.args.site.now c.args.class c.args.which c.args.relay c.args.list c.push_list.new.lists.items before.lists.items
          after.lists.items c.loop-at.invariant.posted c.in_ok-follow.ensures.posted;
      below = more_walked c.args.site.now c.args.class c.args.which c.args.relay c.args.list c.set_at-set.result c.loop-at.next c.in-Some.at
          before.hops.items after.hops.items before.lists.items after.lists.items c.set_at-set.ensures c.in-Some.ensures.some
          c.in_ok-follow.ensures.grows.hops_kept c.in_ok-follow.ensures.grows.lists_kept c.loop-at.invariant.below c.in_ok-follow.ensures.followed;
      listed = c.in_ok-follow.ensures.listed;
    }

pub walk-returns-clause-grows : goal.walk-returns-clause-grows
walk-returns-clause-grows t c =
    let found = c.loop-at.found in
    list_done c.args.site.now c.args.class c.args.which c.args.relay c.args.list c.args.found.now.hops.items found.hops.items c.args.found.now.lists.items
    found.lists.items
    (subst (λ l. WalksOn c.args.site.now c.args.class c.args.which c.args.relay c.args.found.now.hops.items l found.hops.items found.lists.items)
    c.in_ok-push_list.ensures.items c.loop-at.invariant.grows)
    (all_walked c.args.site.now c.args.class c.args.which c.args.relay c.args.list c.set_at-set.result c.loop-at.next found.hops.items found.lists.items
    c.set_at-set.ensures c.in_default.ensures.none c.loop-at.invariant.below)

pub walk-returns-clause-posted : goal.walk-returns-clause-posted
walk-returns-clause-posted t c = λ to is.
    lists_of c.args.site.now c.args.class c.args.which c.args.relay c.args.list c.args.found.now.lists.items c.push_list.new.lists.items
    c.loop-at.found.lists.items c.in_ok-push_list.ensures.items c.loop-at.invariant.posted to is

pub walk-returns-clause-done : goal.walk-returns-clause-done
walk-returns-clause-done t c =
    c.loop-at.invariant.grows.lists_kept c.args.list
    (subst (λ l. Contains l c.args.list) (sym c.in_ok-push_list.ensures.items) (Contains-push c.args.found.now.lists.items c.args.list))

-- ---- an occurrence

pub follow-returns-in-Some-clause-followed : goal.follow-returns-in-Some-clause-followed
follow-returns-in-Some-clause-followed t c = λ is here.
    subst (λ o. OnOk c.follow_one.result (IsFollowed c.args.site.now c.args.which c.args.relay c.follow_one.new.found.hops.items
    c.follow_one.new.found.lists.items o))
    (one_value (sym c.in-Some.is ∙ c.occurrence_at.ensures ∙ here)) c.follow_one.ensures.followed

pub follow_one-returns-in-Run-clause-grows : goal.follow_one-returns-in-Run-clause-grows
follow_one-returns-in-Run-clause-grows t c =
    on_ok (AddsTarget c.args.site.now c.args.relay c.in-Run.action c.args.number c.args.found.now.hops.items c.push_target.new.hops.items)
    (WalksOn c.args.site.now c.args.class c.args.which c.args.relay c.args.found.now.hops.items c.args.found.now.lists.items c.push_target.new.hops.items
    c.args.found.now.lists.items)
    (run_grows c.args.site.now c.args.class c.args.which c.args.relay c.in-Run.action c.args.number c.args.found.now.hops.items
    c.push_target.new.hops.items c.args.found.now.lists.items)
    c.push_target.result c.push_target.ensures

pub follow_one-returns-in-Run-clause-sound : goal.follow_one-returns-in-Run-clause-sound
follow_one-returns-in-Run-clause-sound t c = λ first leads.
    on_ok (AddsTarget c.args.site.now c.args.relay c.in-Run.action c.args.number c.args.found.now.hops.items c.push_target.new.hops.items)
    (AddsLeads c.args.site.now c.args.class c.args.which c.args.relay first c.args.number c.args.found.now.hops.items c.push_target.new.hops.items)
    (run_sound c.args.site.now c.args.class c.args.which c.args.relay c.args.list c.args.at c.in-Run.action first c.args.number
    c.args.found.now.hops.items c.push_target.new.hops.items
    (subst (Does c.args.site.now c.args.class c.args.which c.args.relay c.args.list c.args.at) c.in-Run.is c.requires.does) leads)
    c.push_target.result c.push_target.ensures

pub follow_one-returns-in-Run-clause-followed : goal.follow_one-returns-in-Run-clause-followed
follow_one-returns-in-Run-clause-followed t c =
    on_ok (AddsTarget c.args.site.now c.args.relay c.in-Run.action c.args.number c.args.found.now.hops.items c.push_target.new.hops.items)
    (IsFollowed c.args.site.now c.args.which c.args.relay c.push_target.new.hops.items c.args.found.now.lists.items c.args.is)
    (λ adds. subst (IsFollowed c.args.site.now c.args.which c.args.relay c.push_target.new.hops.items c.args.found.now.lists.items) (sym c.in-Run.is) adds.has)
    c.push_target.result c.push_target.ensures

pub follow_one-walk-requires : goal.follow_one-walk-requires
follow_one-walk-requires t c =
    let stands = c.requires.stands ∙ ap Some c.in-Post.is in
    let used : is_used (plan_at c.args.site.now c.args.relay) c.in-Post.inner ≡ true =
    posted_used c.args.site.now c.is_lawful.ensures c.args.relay c.args.list c.args.at c.in-Post.inner stands in
    let there : c.in-Post.inner < length (plan_at c.args.site.now c.args.relay).lists =
    posted_there c.args.site.now c.is_lawful.ensures c.args.relay c.args.list c.args.at c.in-Post.inner stands in
    let falls : 3 * (length (plan_at c.args.site.now c.args.relay).lists - length c.args.found.now.lists.items) + 1
    < 3 * (length (plan_at c.args.site.now c.args.relay).lists - length c.args.found.now.lists.items) + 2 = omega arith in
    search (rules, used, there, falls)

pub follow_one-returns-else-not-follows_posts-clause-sound : goal.follow_one-returns-else-not-follows_posts-clause-sound
follow_one-returns-else-not-follows_posts-clause-sound t c = λ first leads.
    c.walk.ensures.sound first (λ k to later. leads to
    (leads_post c.args.site.now c.args.class c.args.relay c.args.which (sym c.follows_posts.ensures ∙ c.if-not-follows_posts.false) c.args.list c.args.at
    c.in-Post.inner k to (subst (Does c.args.site.now c.args.class c.args.which c.args.relay c.args.list c.args.at) c.in-Post.is c.requires.does) later))

pub follow_one-returns-else-not-follows_posts-clause-followed : goal.follow_one-returns-else-not-follows_posts-clause-followed
follow_one-returns-else-not-follows_posts-clause-followed t c =
    on_ok (Contains c.walk.new.found.lists.items c.in-Post.inner)
    (IsFollowed c.args.site.now c.args.which c.args.relay c.walk.new.found.hops.items c.walk.new.found.lists.items c.args.is)
    (λ there. subst (IsFollowed c.args.site.now c.args.which c.args.relay c.walk.new.found.hops.items c.walk.new.found.lists.items) (sym c.in-Post.is)
    (λ follows. there))
    c.walk.result c.walk.ensures.done

pub follow_one-returns-else-not-follows_posts-clause-posted : goal.follow_one-returns-else-not-follows_posts-clause-posted
follow_one-returns-else-not-follows_posts-clause-posted t c =
    on_ok (AddsLists c.args.site.now c.args.class c.args.which c.args.relay c.in-Post.inner c.args.found.now.lists.items c.walk.new.found.lists.items)
    (AddsPosted c.args.site.now c.args.class c.args.which c.args.relay c.args.list c.args.found.now.lists.items c.walk.new.found.lists.items)
    (posted_by c.args.site.now c.args.class c.args.which c.args.relay c.args.list c.args.at c.in-Post.inner c.args.found.now.lists.items
    c.walk.new.found.lists.items (sym c.follows_posts.ensures ∙ c.if-not-follows_posts.false)
    (subst (Does c.args.site.now c.args.class c.args.which c.args.relay c.args.list c.args.at) c.in-Post.is c.requires.does))
    c.walk.result c.walk.ensures.posted
