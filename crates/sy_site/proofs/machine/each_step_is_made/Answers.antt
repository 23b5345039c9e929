use Rattle.std.proofs.Common.{refl, arith}
use Rattle.sy_board.specs.relay.Steps.{Cause}
use Rattle.sy_site.proofs.machine.NarrowRun.{copy, narrow_run, s13}
use Rattle.sy_site.proofs.machine.each_step_is_made.Goals as goal

pub returns : goal.returns
returns c class = (
  s13 class,
  narrow_run class,
  record {
    loss = record { copy = 0; relay = 0; list = 1; cause = Cause.GiveUp 0 };
    there = (2, omega arith, refl);
    copy = record { copy = copy class 0; is = refl; numbered = refl };
    plain = refl;
  },
)
