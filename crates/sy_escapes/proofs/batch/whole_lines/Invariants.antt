use Rattle.std.proofs.Common.{length, ◌-◌, ◌≡◌, ◌≤◌, map, take}
use Rattle.std.specs.Arc.{arc_value}
use Rattle.sy_escapes.specs.Escapes.{lines_of}
use Rattle.sy_escapes.proofs.batch.whole_lines.Given as goal

abbrev pub invariant-loop-whole : goal.invariant-loop-whole
invariant-loop-whole l = record {
  within : l.whole ≤ length l.messages;
  bound : l.start ≤ l.reached;
  start : l.start ≡ length (lines_of (take l.whole (map arc_value l.messages)));
}

abbrev pub decreases-loop-whole : goal.decreases-loop-whole
decreases-loop-whole l = length l.messages - l.whole
