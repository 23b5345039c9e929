use Rattle.std.proofs.Common.{arith}
use Rattle.sy_flows.proofs.Led.{led_all, led_more, more_behind, nothing_more, stands_more}
use Rattle.sy_flows.proofs.lists.add_leads.Goals as goal

pub loop-number-init : goal.loop-number-init
loop-number-init c = record {
  marked = c.requires.marked;
  found = c.requires.found;
  more = nothing_more c.args.found.now.lists.items;
  led = λ k to low lead. absurd (omega (arith, low));
}

pub add_lead-requires : goal.add_lead-requires
add_lead-requires c = record {
  marked = c.loop-number.invariant.marked;
  found = c.loop-number.invariant.found;
  stands = stands_more c.args.found.now.lists.items c.loop-number.found.lists.items c.loop-number.invariant.more c.args.place c.args.from
      c.requires.stands;
  there = c.requires.there;
  small = c.in-Some.ensures.some.small;
  does = λ is here. c.set_at-must.ensures.sound c.in-Some.number is c.in-Some.ensures.some.member here;
}

pub loop-number-preserved : goal.loop-number-preserved
loop-number-preserved c = record {
  marked = c.in_ok-add_lead.ensures.marked;
  found = c.in_ok-add_lead.ensures.found;
  more = more_behind c.args.found.now.lists.items c.loop-number.found.lists.items c.add_lead.new.found.lists.items c.loop-number.invariant.more
      c.in_ok-add_lead.ensures.more;
  led = led_more c.args.site.now c.args.class c.args.from c.set_at-must.result c.set_at-must.ensures c.loop-number.found.lists.items
      c.add_lead.new.found.lists.items c.in_ok-add_lead.ensures.more c.loop-number.next c.in-Some.number c.in-Some.ensures.some
      c.loop-number.invariant.led c.in_ok-add_lead.ensures.led;
}

pub returns-clause-led : goal.returns-clause-led
returns-clause-led c =
    led_all c.args.site.now c.args.class c.args.from c.set_at-must.result c.set_at-must.ensures c.loop-number.found.lists.items c.loop-number.next
    c.in_default.ensures.none c.loop-number.invariant.led
