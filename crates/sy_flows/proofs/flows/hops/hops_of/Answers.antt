use Rattle.std.proofs.Common.{◌+◌, length}
use Rattle.sy_site.specs.Sites.{plan_at}
use Rattle.sy_flows.proofs.Walking.{walk_begins, walk_ends, walk_goes_on}
use Rattle.sy_flows.proofs.flows.hops.hops_of.Goals as goal

pub loop-at-init : goal.loop-at-init
loop-at-init c = (
  walk_begins c.args.site.now c.args.class c.args.which c.args.relay (length (plan_at c.args.site.now c.args.relay).lists) c.args.list
      c.nothing_walked-found.result.hops.items c.nothing_walked-found.result.lists.items c.nothing_walked-found.ensures.hops
      c.nothing_walked-found.ensures.lists,
  c.nothing_walked-found.ensures.listed,
)

pub loop-at-preserved : goal.loop-at-preserved
loop-at-preserved c = (
  walk_goes_on c.args.site.now c.args.class c.args.which c.args.relay (length (plan_at c.args.site.now c.args.relay).lists) c.args.list
      c.set_at-set.result c.loop-at.next c.in-Some.at c.loop-at.found.hops.items c.follow.new.found.hops.items c.loop-at.found.lists.items
      c.follow.new.found.lists.items c.set_at-set.ensures c.in-Some.ensures.some c.loop-at.invariant.0 c.in_ok-follow.ensures.grows
      (c.in_ok-follow.ensures.sound c.args.list (λ to leads. leads)) c.in_ok-follow.ensures.posted c.in_ok-follow.ensures.followed c.in_ok-follow.ensures.apart,
  c.in_ok-follow.ensures.listed,
)

pub follow-requires : goal.follow-requires
follow-requires c = record {
  relay = c.requires.relay;
  there = c.requires.there;
  does = λ is here. c.set_at-set.ensures.sound c.in-Some.at is c.in-Some.ensures.some.member here;
  flows = c.requires.flows;
  apart = c.loop-at.invariant.0.apart;
  listed = c.loop-at.invariant.1;
}

pub returns : goal.returns
returns c =
    walk_ends c.args.site.now c.args.class c.args.which c.args.relay (length (plan_at c.args.site.now c.args.relay).lists) c.args.list
    c.set_at-set.result c.loop-at.next (record { hops = c.loop-at.found.hops; lists = c.loop-at.found.lists }) c.set_at-set.ensures
    c.in_default.ensures.none c.loop-at.invariant.0
