use Rattle.std.proofs.Common.{◌≡◌, drop}
use Rattle.sy_rules.specs.parts.Plans.{names_of, place_of}
use Rattle.sy_rules.proofs.lemmas.lists.Places.{past}
use Rattle.sy_rules.proofs.lists.build.scope.place_of.Given as goal

-- the name is found in the rest, that many places after
abbrev pub invariant-loop-place : goal.invariant-loop-place
invariant-loop-place l = past l.place (place_of l.name (names_of (drop l.place l.rulesets))) ≡ place_of l.name (names_of l.rulesets)
