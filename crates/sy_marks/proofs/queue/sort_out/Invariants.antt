use Rattle.std.proofs.Common.{◌≡◌, ◌^◌, ◌<◌, ◌≤◌, ◌++◌, length, drop}
use Rattle.sy_marks.specs.Marks.{kept_of, lost_of}
use Rattle.sy_marks.proofs.queue.sort_out.Given as goal

-- what was taken so far, and what will be, is what is to be taken
abbrev pub invariant-loop-remaining : goal.invariant-loop-remaining
invariant-loop-remaining l = record {
  there : l.remaining ≤ length l.nodes;
  fits : length l.nodes < 2 ^ 64;
  rest : drop l.remaining l.nodes ≡ drop l.count l.initial.nodes;
  kept : l.kept ++ kept_of l.marks l.remaining l.nodes ≡ l.initial.kept ++ kept_of l.marks l.count l.initial.nodes;
  lost : l.lost ++ lost_of l.marks l.remaining l.nodes ≡ l.initial.lost ++ lost_of l.marks l.count l.initial.nodes;
}

abbrev pub decreases-loop-remaining : goal.decreases-loop-remaining
decreases-loop-remaining l = l.remaining
