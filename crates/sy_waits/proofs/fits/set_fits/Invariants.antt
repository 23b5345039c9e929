use Rattle.std.proofs.Common.{◌≡◌, ℕ, ◌<◌, ◌≤◌, Some, get_or, length}
use Rattle.std.specs.Int.{bit_at}
use Rattle.sy_rules.specs.declared.lists.occurrence.Occurrence.{Occurrence}
use Rattle.sy_site.specs.machine.Reach.{occurrence_at}
use Rattle.sy_waits.specs.internal.Fits.{Fits}
use Rattle.sy_waits.proofs.fits.set_fits.Given as goal

abbrev pub invariant-loop-number : goal.invariant-loop-number
invariant-loop-number l = record {
  each : (number : ℕ) (is : Occurrence) → number < l.number → bit_at l.set number ≡ 1 → occurrence_at l.site l.relay l.list number ≡ Some is
      → Fits l.site l.of l.numbers l.marks l.relay (get_or l.numbers l.from 0) is;
  all : l.number-end ≡ length l.occurrences;
  within : l.number ≤ l.number-end;
}
