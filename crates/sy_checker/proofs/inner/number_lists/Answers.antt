use Rattle.std.proofs.Common.{◌≡◌, true, arith, eqb-true, length, refl, subst, sym, ◌∙◌}
use Rattle.sy_site.specs.Sites.{plan_at}
use Rattle.sy_site.specs.machine.Reach.{list_of}
use Rattle.sy_flows.specs.Flows.{is_used}
use Rattle.sy_checker.specs.internal.Inner.{AreOpen, IsOnWay}
use Rattle.sy_checker.proofs.Numbering.{all_done, kept_all, open_none, way_begins}
use Rattle.sy_flows.proofs.There.{relay_there}
use Rattle.sy_flows.proofs.Used.{input_list, input_used}
use Rattle.sy_checker.proofs.inner.number_lists.Goals as goal

pub returns-then-is_empty-clause-kept : goal.returns-then-is_empty-clause-kept
returns-then-is_empty-clause-kept c = kept_all c.args.done.now.items

pub returns-then-is_empty-clause-posted : goal.returns-then-is_empty-clause-posted
returns-then-is_empty-clause-posted c = λ to posts.
    let there = (c.lists_at.ensures.each to).1 posts in
    let low = there.1 in
    let none = eqb-true (length c.lists_at.result.now) 0 (sym c.is_empty.ensures ∙ c.if-is_empty.true) in
    absurd (omega (arith, low, none))

pub visit-requires : goal.visit-requires
visit-requires c = record {
  input = relay_there c.args.site.now c.args.input c.requires.there;
  there = c.list_at-own.ensures.there;
  used = subst (λ l. is_used (plan_at c.args.site.now c.args.input.relay) l ≡ true) (sym c.list_at-own.ensures.list)
      (input_used (plan_at c.args.site.now c.args.input.relay) (list_of c.args.site.now c.args.input)
      (input_list c.args.site.now c.args.input c.requires.there));
  flows = c.requires.flows.lists;
  on_way = subst (IsOnWay c.args.site.now c.args.class c.args.input c.new-way.result.items) (sym c.list_at-own.ensures.list)
      (way_begins c.args.site.now c.args.class c.args.input c.new-way.result.items c.new-way.ensures.items);
  undone = subst (λ w. AreOpen w c.args.done.now.items) (sym c.new-way.ensures.items) (open_none c.args.done.now.items);
  done = c.requires.done;
}

pub returns-clause-posted : goal.returns-clause-posted
returns-clause-posted c =
    all_done c.args.site.now c.args.class c.args.input c.visit.new.done.items c.list_at-own.result c.list_at-own.ensures.list c.in_ok-visit.ensures.its
    c.in_ok-visit.ensures.done
