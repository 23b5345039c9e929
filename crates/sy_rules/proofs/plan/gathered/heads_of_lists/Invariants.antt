use Rattle.std.proofs.Common.{◌≡◌, ◌++◌, length, map}
use Rattle.std.specs.List.{filter_map}
use Rattle.sy_rules.specs.check.ScriptFaults.{head_of, heads_of}
use Rattle.sy_rules.specs.items.ItemViews.{placed}
use Rattle.sy_rules.specs.internal.TableSizes.{head}
use Rattle.sy_rules.proofs.plan.gathered.heads_of_lists.Given as goal

-- what is found, and the heads of the rest
abbrev pub invariant-loop-rest : goal.invariant-loop-rest
invariant-loop-rest l = map head l.heads.items ++ filter_map head_of (map placed l.rest) ≡ heads_of (map placed l.items)

abbrev pub decreases-loop-rest : goal.decreases-loop-rest
decreases-loop-rest l = length l.rest
