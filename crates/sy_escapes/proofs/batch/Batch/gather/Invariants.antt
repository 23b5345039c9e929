use Rattle.std.proofs.Common.{length, ◌-◌, ◌≡◌, ◌≤◌, map, take}
use Rattle.std.specs.Arc.{arc_value}
use Rattle.sy_escapes.specs.Escapes.{lines_of}
use Rattle.sy_escapes.proofs.batch.Batch.gather.Given as goal

abbrev pub invariant-loop-count : goal.invariant-loop-count
invariant-loop-count l = record {
  within : l.count ≤ length l.messages;
  lines : l.self.text.items ≡ lines_of (take l.count (map arc_value l.messages));
  out : l.self.out ≡ 0;
}

abbrev pub decreases-loop-count : goal.decreases-loop-count
decreases-loop-count l = length l.messages - l.count
