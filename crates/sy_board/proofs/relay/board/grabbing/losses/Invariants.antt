use Rattle.std.proofs.Common.{◌≡◌, ◌+◌, ◌≤◌, ◌++◌, [], length, unwrap_or}
use Rattle.sy_marks.specs.Marks.{lost_of}
use Rattle.sy_board.specs.relay.Totals.{guarded_losses, no_guard}
use Rattle.sy_board.proofs.relay.Losses.{losses_of}
use Rattle.sy_board.proofs.relay.board.grabbing.losses.Given as goal

-- the entries taken out and those that wait are all; what was counted so far, and what is lost from here on, is all that is lost
abbrev pub invariant-loop-unjudged : goal.invariant-loop-unjudged
invariant-loop-unjudged l = record {
  there : l.unjudged ≤ length l.queue.entries;
  marks : l.queue.marks ≡ l.initial.queue.marks;
  same : l.front ++ l.queue.entries ≡ l.initial.queue.entries;
  few : l.lost + l.unjudged ≤ l.count;
  few_guarded : l.guarded + l.unjudged ≤ l.count;
  lost : l.lost + length (lost_of l.queue.marks l.unjudged l.queue.entries)
      ≡ length (lost_of l.initial.queue.marks l.count l.initial.queue.entries);
  guarded : l.guarded + guarded_losses l.plan (unwrap_or l.guard no_guard) (losses_of (lost_of l.queue.marks l.unjudged l.queue.entries))
      ≡ guarded_losses l.plan (unwrap_or l.guard no_guard) (losses_of (lost_of l.initial.queue.marks l.count l.initial.queue.entries));
}

abbrev pub decreases-loop-unjudged : goal.decreases-loop-unjudged
decreases-loop-unjudged l = l.unjudged
