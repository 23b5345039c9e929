use Rattle.std.proofs.Common.{arith}
use Rattle.std.proofs.lemmas.List.{length-drop, take_rest}
use Rattle.sy_unread.specs.Skipping.{rests}
use Rattle.sy_unread.proofs.Goings.{passes_more}
use Rattle.sy_unread.proofs.skipping.passing.scan.Goals as goal

pub loop-at-init : goal.loop-at-init
loop-at-init c = record { within = omega arith; passes = rests }

pub loop-at-preserved : goal.loop-at-preserved
loop-at-preserved c =
    let ahead = take_rest c.args.bytes.now c.loop-at.at in
    let starts = rw ahead at c.in-Some.ensures.some in
    let count = rw ahead at c.min-some.ensures in
    let size = length-drop c.loop-at.at c.args.bytes.now in
    record {
      within = omega (arith, count, size, c.loop-at.invariant.within);
      passes = rw c.begun-frames.ensures (passes_more _ _ _ _ _ _ _ _ c.loop-at.invariant.passes c.loop-at.invariant.within count starts);
    }
