use Rattle.std.proofs.Common.{refl, arith}
use Rattle.sy_site.specs.machine.Examples.{audit}
use Rattle.sy_site.proofs.machine.ExampleSound.{audit_is_named, auth_is_protected}
use Rattle.sy_site.proofs.machine.SilentRun.{not_kept, others, s1, silent_run}
use Rattle.sy_site.proofs.counterexamples.an_idle_message_isnt_safe.Goals as goal

pub returns : goal.returns
returns c class facility severity = (
  s1 class,
  silent_run class,
  λ safe. not_kept class ((safe 0 _ refl (auth_is_protected class facility severity) (0, omega arith, refl)).kept
      audit (audit_is_named class facility severity)),
  others class,
)
