-- The list of a name among the names of rulesets.
use Rattle.std.proofs.Common.{◌≡◌, ℕ, ◌+◌, Option, Some, None, refl, arith}
use Rattle.sy_rules.specs.parts.Plans.{one_more, list_at_place}

-- the list at a place among those from this one on
abbrev pub named_from : ℕ → Option ℕ → ℕ
named_from list None = 0
named_from list (Some place) = list + place

pub named_from_next : (list : ℕ) (place : Option ℕ) → named_from (list + 1) place ≡ named_from list (one_more place)
named_from_next list None = refl
named_from_next list (Some place) = omega arith

pub named_from_first : (place : Option ℕ) → named_from 1 place ≡ list_at_place place
named_from_first None = refl
named_from_first (Some place) = omega arith
