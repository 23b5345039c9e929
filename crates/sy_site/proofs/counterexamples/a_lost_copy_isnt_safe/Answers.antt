use Rattle.std.proofs.Common.{refl, arith}
use Rattle.sy_site.proofs.machine.ExampleSound.{auth_is_protected}
use Rattle.sy_site.proofs.machine.HastyRun.{copy, hasty_run, others, s4}
use Rattle.sy_site.proofs.counterexamples.a_lost_copy_isnt_safe.Goals as goal

pub returns : goal.returns
returns c class facility severity = (
  s4 class,
  hasty_run class,
  λ safe. (safe 0 _ refl (auth_is_protected class facility severity) (0, omega arith, refl)).not_lost
      _ (0, omega arith, refl) (record { copy = copy class; is = refl; numbered = refl }) refl,
  others class,
)
