use Rattle.std.proofs.Common.{arith}
use Rattle.sy_conversion.specs.Conversions.{none, more}
use Rattle.sy_conversion.proofs.conversion.take_all.Goals as goal

pub loop-first-init : goal.loop-first-init
loop-first-init c = (omega arith, rw c.new-told.ensures.items none)

pub loop-first-preserved : goal.loop-first-preserved
loop-first-preserved c =
    let end = c.behind-end.ensures in (
      end.within,
      rw c.in_ok-push_told.ensures (more c.loop-first.invariant.1 (record {
        some = end.goes_on;
        within = rw (← c.len-most.ensures) end.within;
        alone = λ is. end.alone (c.in_ok-more.ensures.alone is);
        kind = c.in_ok-more.ensures.fate;
      })),
    )
