use Rattle.std.proofs.Common.{refl, arith}
use Rattle.sy_site.proofs.machine.HastyRun.{copy, hasty_run, s4}
use Rattle.sy_site.proofs.machine.LinkParts.{hasty_others}
use Rattle.sy_site.proofs.counterexamples.a_lost_copy_isnt_confined.Goals as goal

pub returns : goal.returns
returns c class = (
  s4 class,
  hasty_run class,
  λ confined. confined.not_lost _ (0, omega arith, refl) (copy class) (record { is = refl; class_is = refl; entered = (0, omega arith, refl) }) refl,
  hasty_others class,
)
