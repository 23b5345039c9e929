use Rattle.std.proofs.Common.{◌≡◌, ℕ, ◌≤◌, Fits, w32, arith}
use Rattle.sy_rules.proofs.lemmas.parameters.Ranges.{action_takes_queue, interval_in_range}
use Rattle.sy_rules.proofs.parameters.objects.read_action_of.Goals as goal

fits_32 : (n m : ℕ) → n ≡ m → m ≤ 2147483647 → Fits w32 n
fits_32 n m e le = omega (arith, e, le)

pub overflow_cast-resume_interval : goal.overflow_cast-resume_interval
overflow_cast-resume_interval c = fits_32 _ _ c.number_of-resume_interval.ensures (omega (arith, (interval_in_range c.args.kind c.args.params.now c.requires.action c.requires.clean).greatest))

pub queue_of-queue-requires-clause-takes : goal.queue_of-queue-requires-clause-takes
queue_of-queue-requires-clause-takes c = action_takes_queue c.args.kind c.requires.action
