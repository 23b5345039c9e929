use Rattle.std.proofs.Common.{arith}
use Rattle.sy_waits.specs.internal.Groups.{GroupHasLeft}
use Rattle.sy_waits.proofs.Alike.{each_has_left, none_there, one_more_of_first}
use Rattle.sy_waits.proofs.waits.round_of.Goals as goal

pub loop-place-preserved : goal.loop-place-preserved
loop-place-preserved c =
    let below = c.loop-place-test.true in
    record {
      each = one_more_of_first (GroupHasLeft c.args.site.now) c.args.groups.now c.loop-place.place c.index-groups-place.result
          c.index-groups-place.is c.loop-place.invariant.each
          (c.in_ok-round.ensures (none_there c.in_ok-round.round c.is_some.result c.is_some.ensures c.if-is_some.false));
      all = c.loop-place.invariant.all;
      within = omega (arith, below);
    }

pub returns : goal.returns
returns c = λ none. each_has_left c.args.site.now c.args.groups.now c.requires.groups (λ k group low is.
    (let past = c.loop-place-test.false in c.loop-place.invariant.each k group (omega (arith, low, past)) is))
