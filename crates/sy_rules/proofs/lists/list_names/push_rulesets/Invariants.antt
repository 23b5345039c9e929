use Rattle.std.proofs.Common.{◌≡◌, ◌++◌, drop, map}
use Rattle.sy_rules.proofs.lists.list_names.push_rulesets.Given as goal

-- the names so far, and those of the rest
abbrev pub invariant-loop-ruleset : goal.invariant-loop-ruleset
invariant-loop-ruleset l = l.names.items ++ map (λ r. r.name) (drop l.ruleset-index l.rulesets) ≡ l.initial.names.items ++ map (λ r. r.name) l.rulesets
