use Rattle.std.proofs.Common.{refl}
use Rattle.sy_fleet.proofs.queues.append_sized.Goals as goal

pub returns : goal.returns
returns c = rw (c.in_ok-append_one-4.ensures, c.in_ok-append_one-3.ensures, c.in_ok-append_one-2.ensures, c.in_ok-append_one.ensures, c.mark-full.ensures, c.saturating_sub.ensures, c.discard_mark-least.ensures, c.discards-severity.ensures) refl
