use Rattle.std.proofs.Common.{refl, arith}
use Rattle.sy_board.specs.relay.Steps.{Cause}
use Rattle.sy_site.specs.machine.Counterexamples.{discarding_queue, unmarked_queue}
use Rattle.sy_site.proofs.machine.ExampleSound.{auth_is_protected}
use Rattle.sy_site.proofs.machine.LeakingRun.{copy, discarding_room, discarding_run, others, s5, unmarked_room, unmarked_run}
use Rattle.sy_site.proofs.counterexamples.a_lost_post_isnt_safe.Goals as goal

pub returns-clause-without_a_mark : goal.returns-clause-without_a_mark
returns-clause-without_a_mark c class facility severity = (
  s5 class unmarked_queue (unmarked_room class) refl (Cause.PostLost 2),
  unmarked_run class,
  λ safe. (safe 0 _ refl (auth_is_protected class facility severity) (0, omega arith, refl)).not_lost
      _ (0, omega arith, refl) (record { copy = copy class; is = refl; numbered = refl }) refl,
  others class unmarked_queue (unmarked_room class) refl (Cause.PostLost 2),
)

pub returns-clause-discarded : goal.returns-clause-discarded
returns-clause-discarded c class facility severity = (
  s5 class discarding_queue (discarding_room class) refl (Cause.Post 2),
  discarding_run class,
  λ safe. (safe 0 _ refl (auth_is_protected class facility severity) (0, omega arith, refl)).not_lost
      _ (0, omega arith, refl) (record { copy = copy class; is = refl; numbered = refl }) refl,
  others class discarding_queue (discarding_room class) refl (Cause.Post 2),
)
