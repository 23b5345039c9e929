use Rattle.std.proofs.Common.{◌≡◌, ◌<◌, ◌≤◌, ◌+◌, Some, arith, length, refl, sym}
use Rattle.std.specs.Prelude.{slice_get}
use Rattle.std.proofs.lemmas.Option.{slice_get_read}
use Rattle.sy_warnings.specs.Following.{list_at}
use Rattle.sy_warnings.proofs.Arriving.{all_led, few_lists, kept_more, more_led, none_led}
use Rattle.sy_warnings.proofs.coming.find_all.Goals as goal

pub loop-done-init : goal.loop-done-init
loop-done-init c = record {
  found = c.requires.found;
  starts = c.requires.starts;
  led = none_led c.args.site.now c.args.class c.args.by c.args.found.now.lists.items;
}

pub add_leads-requires : goal.add_leads-requires
add_leads-requires c =
    let low : c.loop-done.done < length c.loop-done.found.lists.items = omega (arith, c.if-done-len.false, c.len.ensures) in
    record {
      found = c.loop-done.invariant.found;
      there = c.loop-done.invariant.found.there c.index-from.result.now (c.loop-done.done, low, sym c.index-from.ensures);
      comes = c.loop-done.invariant.found.come c.index-from.result.now (c.loop-done.done, low, sym c.index-from.ensures);
    }

pub loop-done-preserved : goal.loop-done-preserved
loop-done-preserved c =
    let low : c.loop-done.done < length c.loop-done.found.lists.items = omega (arith, c.if-done-len.false, c.len.ensures) in
    record {
      found = c.in_ok-add_leads.ensures.found;
      starts = λ x is. kept_more c.loop-done.found.lists.items c.add_leads.new.found.lists.items c.in_ok-add_leads.ensures.more
          (list_at c.args.site.now x) (c.loop-done.invariant.starts x is);
      led = more_led c.args.site.now c.args.class c.args.by c.loop-done.found.lists.items c.add_leads.new.found.lists.items c.loop-done.done
          c.index-from.result.now
          (slice_get_read c.loop-done.found.lists.items (length c.loop-done.found.lists.items) c.loop-done.done c.index-from.result.now refl low
          c.index-from.ensures)
          c.in_ok-add_leads.ensures.more c.loop-done.invariant.led c.in_ok-add_leads.ensures.led;
    }

pub returns-then-done-len : goal.returns-then-done-len
returns-then-done-len c =
    let all : length c.loop-done.found.lists.items ≤ c.loop-done.done = omega (arith, c.if-done-len.true, c.len.ensures) in
    all_led c.args.site.now c.is_lawful.ensures c.args.class c.args.by c.loop-done.found.lists.items c.loop-done.found.marks.items c.loop-done.done all
    c.loop-done.invariant.found c.loop-done.invariant.starts c.loop-done.invariant.led

pub returns : goal.returns
returns c =
    let few = few_lists c.args.site.now c.is_lawful.ensures c.loop-done.found.lists.items c.loop-done.invariant.found.distinct
    c.loop-done.invariant.found.there in
    let end = c.loop-done-test.false in
    let all : length c.loop-done.found.lists.items ≤ c.loop-done.done = omega (arith, few, end) in
    all_led c.args.site.now c.is_lawful.ensures c.args.class c.args.by c.loop-done.found.lists.items c.loop-done.found.marks.items c.loop-done.done all
    c.loop-done.invariant.found c.loop-done.invariant.starts c.loop-done.invariant.led
