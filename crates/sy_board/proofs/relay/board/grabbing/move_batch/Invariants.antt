use Rattle.std.proofs.Common.{◌≡◌, ◌≤◌, ◌++◌, length, drop}
use Rattle.sy_marks.specs.Marks.{kept_of, lost_of}
use Rattle.sy_board.proofs.relay.Tallies.{Follows}
use Rattle.sy_board.proofs.relay.board.grabbing.move_batch.Given as goal

-- what was taken so far, and what will be, is what is to be taken, for the entries and for what they have due
abbrev pub invariant-loop-left : goal.invariant-loop-left
invariant-loop-left l = record {
  there : l.left ≤ length l.queue.entries;
  marks : l.queue.marks ≡ l.initial.queue.marks;
  rest : drop l.left l.queue.entries ≡ drop l.count l.initial.queue.entries;
  kept : l.entries ++ kept_of l.queue.marks l.left l.queue.entries ≡ l.initial.entries ++ kept_of l.initial.queue.marks l.count l.initial.queue.entries;
  lost : l.lost ++ lost_of l.queue.marks l.left l.queue.entries ≡ lost_of l.initial.queue.marks l.count l.initial.queue.entries;
  counted : Follows l.plan (kept_of l.queue.marks l.left l.queue.entries) l.accounts (kept_of l.initial.queue.marks l.count l.initial.queue.entries) l.initial.accounts;
}

abbrev pub decreases-loop-left : goal.decreases-loop-left
decreases-loop-left l = l.left
