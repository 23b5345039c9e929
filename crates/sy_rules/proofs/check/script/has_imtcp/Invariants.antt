use Rattle.std.proofs.Common.{◌≡◌, drop, map}
use Rattle.std.specs.List.{list_any}
use Rattle.sy_rules.specs.items.ItemViews.{item}
use Rattle.sy_rules.specs.check.ScriptFaults.{loads_imtcp}
use Rattle.sy_rules.proofs.check.script.has_imtcp.Given as goal

abbrev pub invariant-loop-next : goal.invariant-loop-next
invariant-loop-next l = list_any loads_imtcp (map item (drop l.next-index l.items)) ≡ list_any loads_imtcp (map item l.items)
