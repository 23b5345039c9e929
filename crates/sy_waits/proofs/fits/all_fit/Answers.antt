use Rattle.std.proofs.Common.{arith}
use Rattle.sy_waits.specs.internal.Groups.{GroupFits}
use Rattle.sy_waits.proofs.Alike.{each_fits, one_more_of_first}
use Rattle.sy_waits.proofs.fits.all_fit.Goals as goal

pub loop-place-preserved : goal.loop-place-preserved
loop-place-preserved c =
    let below = c.loop-place-test.true in
    record {
      each = one_more_of_first (GroupFits c.args.site.now c.args.of c.args.numbers.now) c.args.groups.now c.loop-place.place c.index-groups-place.result
          c.index-groups-place.is c.loop-place.invariant.each (c.group_fits.ensures c.if-not-group_fits.false);
      all = c.loop-place.invariant.all;
      within = omega (arith, below);
    }

pub returns : goal.returns
returns c = λ yes. each_fits c.args.site.now c.args.groups.now c.args.of c.args.numbers.now c.requires.groups (λ k group low is.
    (let past = c.loop-place-test.false in c.loop-place.invariant.each k group (omega (arith, low, past)) is))
