use Rattle.std.proofs.Common.{◌≡◌, [], take, drop, map}
use Rattle.sy_rules.specs.items.ItemViews.{item, placed}
use Rattle.sy_rules.specs.check.ScriptFaults.{faults_in_text}
use Rattle.sy_rules.specs.internal.Seen.{Shows}
use Rattle.sy_rules.proofs.check.script.check_each.Given as goal

-- nothing is wrong with the items before
abbrev pub invariant-loop-next : goal.invariant-loop-next
invariant-loop-next l = record {
  shows : Shows (take l.next-index (map item l.items)) l.seen;
  left : faults_in_text (map item l.items) (take l.next-index (map item l.items)) (drop l.next-index (map placed l.items)) ≡ faults_in_text (map item l.items) [] (map placed l.items);
}
