use Rattle.std.proofs.Common.{length, ◌-◌, ◌≡◌, ◌≤◌, map, take}
use Rattle.std.specs.List.{AllByRecursion}
use Rattle.std.specs.Arc.{arc_value}
use Rattle.sy_relp.specs.Frames.{IsFrame, stream}
use Rattle.sy_relp.specs.Exchanges.{numbered}
use Rattle.sy_relp.proofs.write.gather.Given as goal

abbrev pub invariant-loop-count : goal.invariant-loop-count
invariant-loop-count l = record {
  few : l.count ≤ 1024;
  within : l.count ≤ length l.messages;
  each : AllByRecursion IsFrame (numbered l.next (take l.count (map arc_value l.messages)));
  frames : l.room.items ≡ stream (numbered l.next (take l.count (map arc_value l.messages)));
}

abbrev pub decreases-loop-count : goal.decreases-loop-count
decreases-loop-count l = 1024 - l.count
