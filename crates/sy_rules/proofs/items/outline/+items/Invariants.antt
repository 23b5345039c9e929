use Rattle.std.proofs.Common.{◌≡◌, ◌++◌, drop, map}
use Rattle.sy_rules.specs.items.ItemViews.{placed}
use Rattle.sy_rules.specs.items.Outline.{placed_in_body}
use Rattle.sy_rules.proofs.items.outline.+items.Given as goal

-- what is found, and what the rest gives
abbrev pub invariant-push_body-loop-stmt : goal.invariant-push_body-loop-stmt
invariant-push_body-loop-stmt l = map placed l.found.items ++ placed_in_body (drop l.stmt-index l.body) ≡ map placed l.initial.found.items ++ placed_in_body l.body
