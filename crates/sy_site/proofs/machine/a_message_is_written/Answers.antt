use Rattle.std.proofs.Common.{refl, arith}
use Rattle.sy_site.proofs.machine.ExampleRun.{at_hub, at_mirror, example_run, given_up, s18}
use Rattle.sy_site.proofs.machine.a_message_is_written.Goals as goal

pub returns : goal.returns
returns c class = (
  s18 class,
  example_run class,
  record { tag = 1; there = (0, omega arith, refl); copy = record { copy = at_hub class; is = refl; numbered = refl }; plain = refl },
  record {
    loss = given_up class;
    there = (0, omega arith, refl);
    copy = record { copy = at_mirror class; is = refl; numbered = refl };
    flagged = refl;
  },
)
