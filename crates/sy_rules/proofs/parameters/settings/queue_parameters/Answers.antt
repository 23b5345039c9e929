use Rattle.std.proofs.Common.{◌≡◌, ℕ, ◌≤◌, Fits, w8, w32, refl, arith}
use Rattle.sy_rules.specs.parameters.Objects.{queue_parameters}
use Rattle.sy_rules.proofs.lemmas.parameters.Ranges.{queue_in_range}
use Rattle.sy_rules.proofs.parameters.settings.queue_parameters.Goals as goal

fits_32 : (n m : ℕ) → n ≡ m → m ≤ 2147483647 → Fits w32 n
fits_32 n m e le = omega (arith, e, le)

fits_8 : (n m : ℕ) → n ≡ m → m ≤ 8 → Fits w8 n
fits_8 n m e le = omega (arith, e, le)

pub overflow_cast-size : goal.overflow_cast-size
unfolding queue_parameters
overflow_cast-size c =
    let r = queue_in_range c.args.kind c.args.params.now c.requires.takes c.requires.clean in
    fits_32 _ _ c.number_of-size.ensures (omega (arith, r.size_most))

pub overflow_cast-batch : goal.overflow_cast-batch
unfolding queue_parameters
overflow_cast-batch c =
    let r = queue_in_range c.args.kind c.args.params.now c.requires.takes c.requires.clean in
    fits_32 _ _ (rw c.number_of-size.ensures at c.number_of-batch.ensures) (omega (arith, r.batch_most))

pub overflow_cast-full_delay_mark : goal.overflow_cast-full_delay_mark
unfolding queue_parameters
overflow_cast-full_delay_mark c =
    let r = queue_in_range c.args.kind c.args.params.now c.requires.takes c.requires.clean in
    fits_32 _ _ (rw c.number_of-size.ensures at c.number_of-full_delay_mark.ensures) (omega (arith, r.full_delay_mark))

pub overflow_cast-light_delay_mark : goal.overflow_cast-light_delay_mark
unfolding queue_parameters
overflow_cast-light_delay_mark c =
    let r = queue_in_range c.args.kind c.args.params.now c.requires.takes c.requires.clean in
    fits_32 _ _ (rw c.number_of-size.ensures at c.number_of-light_delay_mark.ensures) (omega (arith, r.light_delay_mark))

pub overflow_cast-discard_mark : goal.overflow_cast-discard_mark
unfolding queue_parameters
overflow_cast-discard_mark c =
    let r = queue_in_range c.args.kind c.args.params.now c.requires.takes c.requires.clean in
    fits_32 _ _ (rw c.number_of-size.ensures at c.number_of-discard_mark.ensures) (omega (arith, r.discard_mark))

pub overflow_cast-discard_severity : goal.overflow_cast-discard_severity
unfolding queue_parameters
overflow_cast-discard_severity c =
    let r = queue_in_range c.args.kind c.args.params.now c.requires.takes c.requires.clean in
    fits_8 _ _ (rw c.number_of-size.ensures at c.number_of-discard_severity.ensures) (omega (arith, r.discard_severity))

pub overflow_cast-timeout_enqueue : goal.overflow_cast-timeout_enqueue
unfolding queue_parameters
overflow_cast-timeout_enqueue c =
    let r = queue_in_range c.args.kind c.args.params.now c.requires.takes c.requires.clean in
    fits_32 _ _ (rw c.number_of-size.ensures at c.number_of-timeout_enqueue.ensures) (omega (arith, r.timeout_enqueue))

pub overflow_cast-workers : goal.overflow_cast-workers
unfolding queue_parameters
overflow_cast-workers c =
    let r = queue_in_range c.args.kind c.args.params.now c.requires.takes c.requires.clean in
    fits_32 _ _ (rw c.number_of-size.ensures at c.number_of-workers.ensures) (omega (arith, r.workers_most))

pub returns-clause-value : goal.returns-clause-value
unfolding queue_parameters
returns-clause-value c =
    rw (c.number_of-batch.ensures, c.number_of-full_delay_mark.ensures, c.number_of-light_delay_mark.ensures, c.number_of-discard_mark.ensures, c.number_of-discard_severity.ensures, c.number_of-timeout_enqueue.ensures, c.number_of-workers.ensures, c.is_word-waits.ensures, c.word_of.ensures, c.number_of-size.ensures) refl

pub returns-clause-in_range : goal.returns-clause-in_range
returns-clause-in_range c = rw (returns-clause-value c) (queue_in_range c.args.kind c.args.params.now c.requires.takes c.requires.clean)
