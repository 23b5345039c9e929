use Rattle.std.proofs.Common.{◌≡◌, ◌<◌, ◌≤◌, ◌+◌, ◌-◌, [], Some, arith, length, refl, subst, sym}
use Rattle.std.specs.Prelude.{slice_get}
use Rattle.std.proofs.lemmas.Option.{slice_get_read}
use Rattle.sy_flows.specs.internal.Marks.{AreListsMarked}
use Rattle.sy_flows.proofs.MarkedLists.{no_lists_marked}
use Rattle.sy_flows.proofs.Led.{all_led, few_lists, more_led, none_led}
use Rattle.sy_flows.proofs.lists.lists_from.Goals as goal

pub loop-done-init : goal.loop-done-init
loop-done-init c = record {
  marked = subst (λ l. AreListsMarked l c.mark_list.new.marks.items) (sym c.in_ok-found.ensures.lists)
      (c.in_ok-mark_list.ensures [] (subst (AreListsMarked []) (sym c.new-marks.ensures.items) no_lists_marked));
  found = c.in_ok-found.ensures.found;
  led = none_led c.args.site.now c.args.class c.in_ok-found.found.lists.items;
}

pub add_leads-requires : goal.add_leads-requires
add_leads-requires c =
    let low : c.loop-done.done < length c.loop-done.found.lists.items = omega (arith, c.loop-done-test.true, c.len.ensures) in
    record {
      marked = c.loop-done.invariant.marked;
      found = c.loop-done.invariant.found;
      stands = slice_get_read c.loop-done.found.lists.items (length c.loop-done.found.lists.items) c.loop-done.done c.index-from.result.now refl low
          c.index-from.ensures;
      there = c.loop-done.invariant.found.there c.index-from.result.now (c.loop-done.done, low, sym c.index-from.ensures);
      flows = c.requires.flows;
    }

pub loop-done-preserved : goal.loop-done-preserved
loop-done-preserved c =
    let low : c.loop-done.done < length c.loop-done.found.lists.items = omega (arith, c.loop-done-test.true, c.len.ensures) in
    record {
      marked = c.in_ok-add_leads.ensures.marked;
      found = c.in_ok-add_leads.ensures.found;
      led = more_led c.args.site.now c.args.class c.loop-done.found.lists.items c.add_leads.new.found.lists.items c.loop-done.done
          c.index-from.result.now
          (slice_get_read c.loop-done.found.lists.items (length c.loop-done.found.lists.items) c.loop-done.done c.index-from.result.now refl low
          c.index-from.ensures)
          c.in_ok-add_leads.ensures.more c.loop-done.invariant.led c.in_ok-add_leads.ensures.led;
    }

pub loop-done-smaller : goal.loop-done-smaller
loop-done-smaller c =
    let few = few_lists c.args.site.now c.is_lawful.ensures c.loop-done.found.lists.items c.loop-done.invariant.found.distinct
    c.loop-done.invariant.found.there in
    let low : c.loop-done.done < length c.loop-done.found.lists.items = omega (arith, c.loop-done-test.true, c.len.ensures) in
    let less : 32832 - (c.loop-done.done + 1) < 32832 - c.loop-done.done = omega (arith, few, low) in
    less

pub returns : goal.returns
returns c =
    let all : length c.loop-done.found.lists.items ≤ c.loop-done.done = omega (arith, c.loop-done-test.false, c.len.ensures) in
    all_led c.args.site.now c.args.class c.args.start c.loop-done.found.lists.items c.loop-done.found.origins.items c.loop-done.done all
    c.loop-done.invariant.found c.loop-done.invariant.led
