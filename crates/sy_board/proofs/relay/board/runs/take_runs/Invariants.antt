use Rattle.std.proofs.Common.{◌≡◌, ◌+◌, ◌≤◌, ◌++◌, List, drop, length, map, take}
use Rattle.std.specs.Arc.{arc_value}
use Rattle.std.specs.Vec.{vec_capacity, vec_len}
use Rattle.sy_wire.specs.Messages.{Said}
use Rattle.sy_board.specs.relay.Runs.{AreRuns}
use Rattle.sy_board.proofs.relay.board.runs.take_runs.Given as goal

-- the messages given so far, with those of the runs that stand next now, are those of the runs that stood next
abbrev pub invariant-loop-more : goal.invariant-loop-more
invariant-loop-more l = record {
  all : l.passed ++ l.entries ≡ l.initial.passed ++ l.initial.entries;
  kept : take (length l.initial.into.items) l.into.items ≡ l.initial.into.items;
  room : vec_len l.into + l.more ≤ vec_capacity l.into;
  capacity : vec_capacity l.into ≡ vec_capacity l.initial.into;
  few : l.more ≤ l.most;
  runs : (behind : List Said) → AreRuns l.plan l.action l.more l.entries behind
      → AreRuns l.plan l.action l.most l.initial.entries (map arc_value (drop (length l.initial.into.items) l.into.items) ++ behind);
}

abbrev pub decreases-loop-more : goal.decreases-loop-more
decreases-loop-more l = l.more
