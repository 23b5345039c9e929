use Rattle.std.proofs.Common.{◌≡◌, ◌||◌, ℕ, List, length, map}
use Rattle.sy_rules.specs.items.ItemViews.{item}
use Rattle.sy_rules.specs.check.ScriptFaults.{is_among, ruleset_names_of}
use Rattle.sy_rules.proofs.check.script.ruleset_names.Given as goal

-- a name is in the set or among those to come
abbrev pub invariant-loop-rest : goal.invariant-loop-rest
invariant-loop-rest l = (name : List ℕ) → (is_among name l.names || is_among name (ruleset_names_of (map item l.rest))) ≡ is_among name (ruleset_names_of (map item l.items))

abbrev pub decreases-loop-rest : goal.decreases-loop-rest
decreases-loop-rest l = length l.rest
