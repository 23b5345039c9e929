-- The spare actions of a relay, given by their numbers: which occurrences are spare, and what messages of a class may execute of the relay's plan
-- with them and without (this profile's own).
use Rattle.std.specs.Prelude.{◌≡◌, ℕ, ◌==◌, Bool, false, List, Option, Some, None}
use Rattle.std.specs.List.{list_any}
use Rattle.sy_wire.specs.declared.class.Class.{Class}
use Rattle.sy_rules.specs.declared.lists.occurrence.Occurrence.{Occurrence}
use Rattle.sy_rules.specs.declared.lists.occurrence.Occurrence.TheVariants as occurrence
use Rattle.sy_rules.specs.lists.Work.{May}
use Rattle.sy_rules.specs.PlanValue.{Plan}
use Rattle.sy_rules.specs.Whole.{body_at, owner_at}
use Rattle.sy_board.specs.relay.Plans.{input_at, occurrence_at}
use Rattle.sy_board.specs.relay.Steps.{Cause}

-- ---- spare occurrences

abbrev pub is_spare_action : List ℕ → ℕ → Bool
is_spare_action spares action = list_any (λ spare. spare == action) spares

abbrev pub is_spare_owner : List ℕ → Option ℕ → Bool
is_spare_owner spares None = false
is_spare_owner spares (Some action) = is_spare_action spares action

-- a spare action's own list
abbrev pub is_spare_own : Plan → List ℕ → ℕ → Bool
is_spare_own plan spares list = is_spare_owner spares (owner_at plan list)

-- a spare occurrence: it runs a spare action, or posts to that action's own list
abbrev pub is_spare_occurrence : Plan → List ℕ → Occurrence → Bool
is_spare_occurrence plan spares (occurrence.Run action) = is_spare_action spares action
is_spare_occurrence plan spares (occurrence.Post list) = is_spare_own plan spares list

-- what was lost is a spare occurrence
abbrev pub loses_spare : Plan → List ℕ → Cause → Bool
loses_spare plan spares (Cause.GiveUp action) = is_spare_occurrence plan spares (occurrence.Run action)
loses_spare plan spares (Cause.Post list) = is_spare_occurrence plan spares (occurrence.Post list)
loses_spare plan spares (Cause.PostLost list) = is_spare_occurrence plan spares (occurrence.Post list)
loses_spare plan spares _ = false

-- ---- what may be executed

-- which occurrences are asked: every one, or those alone that aren't spare
pub data Scope : Type 0 where
  Every Firm : Scope

abbrev pub IsInScope : Plan → List ℕ → Scope → Occurrence → Type 0
IsInScope plan spares Scope.Every is = Unit {0}
IsInScope plan spares Scope.Firm is = is_spare_occurrence plan spares is ≡ false

-- an occurrence of a list that messages of the class may execute, and that is in the scope
pub record MayDo (plan : Plan) (spares : List ℕ) (class : Class) (scope : Scope) (list number : ℕ) (is : Occurrence) : Type 0 where
  pub may : May (body_at plan list) class number
  pub found : occurrence_at plan list number ≡ Some is
  pub in_scope : IsInScope plan spares scope is

-- The lists that messages of the class may follow from an input on: its own, and those that posts lead to.
pub data Follows (plan : Plan) (spares : List ℕ) (class : Class) (scope : Scope) (input : ℕ) : ℕ → Type 0 where
  own : Follows plan spares class scope input (input_at plan input).list
  posted : {list inner : ℕ} (number : ℕ) → Follows plan spares class scope input list
      → MayDo plan spares class scope list number (occurrence.Post inner) → Follows plan spares class scope input inner

-- One post after another, at least one, leads from a list to a list.
pub data PostsOn (plan : Plan) (spares : List ℕ) (class : Class) (scope : Scope) : (from to : ℕ) → Type 0 where
  once : {from to : ℕ} (number : ℕ) → MayDo plan spares class scope from number (occurrence.Post to) → PostsOn plan spares class scope from to
  more : {from mid to : ℕ} (number : ℕ) → MayDo plan spares class scope from number (occurrence.Post mid)
      → PostsOn plan spares class scope mid to → PostsOn plan spares class scope from to
