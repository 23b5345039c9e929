use Rattle.std.proofs.Common.{◌≡◌, ℕ, ◌<◌, ◌≤◌, ◌+◌, ◌-◌, ◌*◌, ◌==◌, ◌++◌, ◌∷◌, [], true, length, rules, arith, ap, refl, subst, sym, ◌∙◌}
use Rattle.std.specs.Prelude.{Contains, Some}
use Rattle.std.specs.List.{list_any}
use Rattle.std.proofs.lemmas.Bool.{false≢true}
use Rattle.std.proofs.lemmas.List.{length_push}
use Rattle.std.proofs.lemmas.List.Elements.{Contains-push}
use Rattle.sy_rules.specs.declared.lists.occurrence.Occurrence.{Occurrence}
use Rattle.sy_rules.specs.declared.lists.occurrence.Occurrence.TheVariants as occurrence
use Rattle.sy_board.specs.relay.Spares.{Scope}
use Rattle.sy_site.specs.Sites.{plan_at}
use Rattle.sy_site.specs.machine.Reach.{MayDo, occurrence_at}
use Rattle.sy_flows.specs.Flows.{is_used}
use Rattle.sy_checker.specs.declared.inner.ListNumber.{ListNumber}
use Rattle.sy_checker.specs.internal.Inner.{AreOnWay, AreOpen, IsDone, IsOnWay, number_in}
use Rattle.sy_checker.proofs.Numbering.{any_done, asked_all, asked_by_none, asked_by_post, asked_more, asked_none, done_few, done_more, kept_all, kept_on, number_there, numbered, open_back, open_done, open_on, way_on}
use Rattle.sy_flows.proofs.Used.{posted_there, posted_used, whole_at}
use Rattle.sy_flows.proofs.Walking.{apart_room}
use Rattle.sy_checker.proofs.inner.+visit.Goals as goal

-- ---- a list

pub visit-returns-then-is_done-clause-kept : goal.visit-returns-then-is_done-clause-kept
visit-returns-then-is_done-clause-kept t c = kept_all c.args.done.now.items

pub visit-returns-then-is_done-clause-its : goal.visit-returns-then-is_done-clause-its
visit-returns-then-is_done-clause-its t c =
    subst (λ n. Contains c.args.done.now.items (numbered c.args.list n))
    (ap (λ l. number_in l c.args.list) (sym c.as_slice-known.ensures.value) ∙ sym c.number_in.ensures)
    (number_there c.args.done.now.items c.args.list
    (ap (list_any (λ (x : ListNumber). x.list == c.args.list)) (sym c.as_slice-known.ensures.value) ∙ sym c.is_done.ensures ∙ c.if-is_done.true))

pub visit-visit_posts-requires : goal.visit-visit_posts-requires
visit-visit_posts-requires t c =
    let many = length (plan_at c.args.site.now c.args.input.relay).lists in
    let way = c.args.way.now.items in
    let next = c.go_on.new.way.items in
    let done = c.args.done.now.items in
    let fresh : Contains way c.args.list → ⊥ =
    λ there. false≢true (sym c.if-is_on.false ∙ c.is_on.ensures.1 (subst (λ l. Contains l c.args.list) (sym c.as_slice-before.ensures.value) there)) in
    let not_done : IsDone done c.args.list → ⊥ =
    λ d. false≢true (sym c.if-is_done.false ∙ c.is_done.ensures
    ∙ ap (list_any (λ (x : ListNumber). x.list == c.args.list)) c.as_slice-known.ensures.value ∙ any_done done c.args.list d) in
    let room : length way < many = apart_room many way c.args.list c.requires.on_way.apart fresh c.requires.there in
    let one : length next ≡ length way + 1 = ap length c.in_ok-go_on.ensures ∙ length_push way c.args.list in
    let falls : 3 * (length (plan_at c.args.site.now c.args.input.relay).lists - length c.go_on.new.way.items) + 3
    < 3 * (length (plan_at c.args.site.now c.args.input.relay).lists - length c.args.way.now.items) + 1 = omega (arith, room, one) in
    let on : AreOnWay c.args.site.now c.args.class c.args.input c.go_on.new.way.items c.args.list =
    way_on c.args.site.now c.args.class c.args.input way next c.args.list c.in_ok-go_on.ensures c.requires.on_way fresh c.requires.there in
    let undone : AreOpen c.go_on.new.way.items c.args.done.now.items = open_on way next c.args.list done c.in_ok-go_on.ensures c.requires.undone not_done in
    search (rules, falls, on, undone)

pub visit-returns-clause-undone : goal.visit-returns-clause-undone
visit-returns-clause-undone t c =
    open_done c.args.way.now.items c.go_on.new.way.items c.args.list c.in_ok-number.number c.visit_posts.new.done.items c.push_number.new.done.items
    c.in_ok-go_on.ensures c.in_ok-number.ensures.undone
    (λ there. false≢true (sym c.if-is_on.false ∙ c.is_on.ensures.1 (subst (λ l. Contains l c.args.list) (sym c.as_slice-before.ensures.value) there)))
    c.in_ok-push_number.ensures

pub visit-returns-clause-done : goal.visit-returns-clause-done
visit-returns-clause-done t c =
    done_more c.args.site.now c.args.class c.args.input.relay c.visit_posts.new.done.items c.push_number.new.done.items c.args.list c.in_ok-number.number
    c.in_ok-number.ensures.done
    (open_back c.args.way.now.items c.go_on.new.way.items c.args.list c.visit_posts.new.done.items c.in_ok-go_on.ensures c.in_ok-number.ensures.undone)
    c.requires.there c.in_ok-number.ensures.asked c.in_ok-push_number.ensures

pub visit-returns-clause-its : goal.visit-returns-clause-its
visit-returns-clause-its t c =
    subst (λ l. Contains l (numbered c.args.list c.in_ok-number.number)) (sym c.in_ok-push_number.ensures)
    (Contains-push c.visit_posts.new.done.items (numbered c.args.list c.in_ok-number.number))

-- ---- its posts

pub visit_posts-loop-at-init : goal.visit_posts-loop-at-init
visit_posts-loop-at-init t c = record {
  way = refl;
  undone = c.requires.undone;
  done = c.requires.done;
  kept = kept_all c.args.done.now.items;
  asked = asked_none c.args.site.now c.args.class c.args.input.relay c.args.done.now.items c.args.list;
}

pub visit_posts-visit_one-requires : goal.visit_posts-visit_one-requires
visit_posts-visit_one-requires t c =
    let long : length c.loop-at.way.items ≡ length c.args.way.now.items = ap length c.loop-at.invariant.way in
    let falls : 3 * (length (plan_at c.args.site.now c.args.input.relay).lists - length c.loop-at.way.items) + 2
    < 3 * (length (plan_at c.args.site.now c.args.input.relay).lists - length c.args.way.now.items) + 3 = omega (arith, long) in
    let does : (is : Occurrence) → occurrence_at c.args.site.now c.args.input.relay c.args.list c.in-Some.at ≡ Some is
    → MayDo c.args.site.now c.args.class Scope.Firm c.args.input.relay c.args.list c.in-Some.at is =
    λ is here. c.set_at-set.ensures.sound c.in-Some.at is c.in-Some.ensures.some.member here in
    let on : AreOnWay c.args.site.now c.args.class c.args.input c.loop-at.way.items c.args.list =
    subst (λ w. AreOnWay c.args.site.now c.args.class c.args.input w c.args.list) (sym c.loop-at.invariant.way) c.requires.on_way in
    let undone : AreOpen c.loop-at.way.items c.loop-at.done.items =
    subst (λ w. AreOpen w c.loop-at.done.items) (sym c.loop-at.invariant.way) c.loop-at.invariant.undone in
    let done = c.loop-at.invariant.done in
    search (rules, falls, does, on, undone, done)

pub visit_posts-loop-at-preserved : goal.visit_posts-loop-at-preserved
visit_posts-loop-at-preserved t c =
    let before = c.loop-at.done.items in
    let after = c.visit_one.new.done.items in
    record {
      way = c.in_ok-more.ensures.way ∙ c.loop-at.invariant.way;
      undone = subst (λ w. AreOpen w c.visit_one.new.done.items) c.loop-at.invariant.way c.in_ok-more.ensures.undone;
      done = c.in_ok-more.ensures.done;
      kept = kept_on c.args.done.now.items before after c.loop-at.invariant.kept c.in_ok-more.ensures.kept;
      asked = asked_more c.args.site.now c.args.class c.args.input.relay before after c.args.list c.set_at-set.result c.loop-at.next c.in-Some.at
          c.loop-at.number c.in_ok-more.more c.greater-number.result c.set_at-set.ensures c.in-Some.ensures.some c.in_ok-more.ensures.kept
          c.loop-at.invariant.asked c.in_ok-more.ensures.asked c.greater-number.ensures.one c.greater-number.ensures.other c.greater-number.ensures.is;
    }

pub visit_posts-returns-clause-asked : goal.visit_posts-returns-clause-asked
visit_posts-returns-clause-asked t c =
    asked_all c.args.site.now c.args.class c.args.input.relay c.loop-at.done.items c.args.list c.set_at-set.result c.loop-at.next c.loop-at.number
    c.set_at-set.ensures c.in_default.ensures.none c.loop-at.invariant.asked

-- ---- one occurrence

pub visit_one-visit-requires : goal.visit_one-visit-requires
visit_one-visit-requires t c =
    let here = c.in-Some.ensures.some in
    let falls : 3 * (length (plan_at c.args.site.now c.args.input.relay).lists - length c.args.way.now.items) + 1
    < 3 * (length (plan_at c.args.site.now c.args.input.relay).lists - length c.args.way.now.items) + 2 = omega arith in
    let there : c.in-Some.inner < length (plan_at c.args.site.now c.args.input.relay).lists =
    posted_there c.args.site.now c.is_lawful.ensures c.args.input.relay c.args.list c.args.at c.in-Some.inner here in
    let used : is_used (plan_at c.args.site.now c.args.input.relay) c.in-Some.inner ≡ true =
    posted_used c.args.site.now c.is_lawful.ensures c.args.input.relay c.args.list c.args.at c.in-Some.inner here in
    let on : IsOnWay c.args.site.now c.args.class c.args.input c.args.way.now.items c.in-Some.inner =
    c.requires.on_way.each c.in-Some.inner (c.args.at, c.requires.does (occurrence.Post c.in-Some.inner) here) in
    search (rules, falls, there, used, on)

pub visit_one-overflow_add-result : goal.visit_one-overflow_add-result
visit_one-overflow_add-result t c =
    let small = c.in_ok-number-in-Some.ensures.done.small (numbered c.in-Some.inner c.in_ok-number-in-Some.number) c.in_ok-number-in-Some.ensures.its in
    let few = done_few c.args.site.now c.args.class c.args.input.relay c.visit.new.done.items c.in_ok-number-in-Some.ensures.done in
    let most = (whole_at c.args.site.now c.is_lawful.ensures c.args.input.relay c.requires.input).lists_most in
    omega (arith, small, few, most)

pub visit_one-returns-in_ok-number-in-Some-clause-asked : goal.visit_one-returns-in_ok-number-in-Some-clause-asked
visit_one-returns-in_ok-number-in-Some-clause-asked t c =
    asked_by_post c.args.site.now c.args.class c.args.input.relay c.visit.new.done.items c.args.list c.args.at c.in-Some.inner c.in_ok-number-in-Some.number
    c.in_ok-number-in-Some.ensures.done c.in-Some.ensures.some (c.requires.does (occurrence.Post c.in-Some.inner) c.in-Some.ensures.some)
    c.in_ok-number-in-Some.ensures.its

pub visit_one-returns-in-None-clause-asked : goal.visit_one-returns-in-None-clause-asked
visit_one-returns-in-None-clause-asked t c =
    asked_by_none c.args.site.now c.args.class c.args.input.relay c.args.done.now.items c.args.list c.args.at c.in-None.ensures.none
