-- Walks of classes before.
use Rattle.std.specs.Prelude.{◌≡◌, ℕ, List, Some, slice_get}
use Rattle.sy_flows.specs.declared.flows.SiteFlows.{SiteFlows}
use Rattle.sy_flows.specs.declared.flows.walk.Walk.{Walk}
use Rattle.sy_flows.specs.Flows.{AreSame}

-- at this place stands one with these flows
pub record IsSameAt (walks : List Walk) (flows : SiteFlows) (place : ℕ) : Type 0 where
  pub walk : Walk
  pub stands : slice_get walks place ≡ Some walk
  pub same : AreSame walk.flows.lists flows

-- none has them
abbrev pub IsNew : List Walk → SiteFlows → Type 0
IsNew walks flows = (place : ℕ) (walk : Walk) → slice_get walks place ≡ Some walk → AreSame walk.flows.lists flows → ⊥
