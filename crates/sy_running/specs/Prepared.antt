-- The guard of a relay that is to run (this profile's own).
use Rattle.std.specs.Prelude.{◌≡◌, ℕ, Bool, true, false, ◌↔◌, Contains, Option, Some, None}
use Rattle.sy_wire.specs.declared.class.Class.{Class}
use Rattle.sy_board.specs.relay.Guards.{MayGuard}
use Rattle.sy_board.specs.relay.Totals.{GuardState}
use Rattle.sy_site.specs.Sites.{Site, plan_at, spares_at}
use Rattle.sy_site.specs.machine.Soundness.{IsGuarded, IsSound}

-- The site is sound, and the guard has exactly the guarded pairs of the relay, and exactly its spare actions; the relay's plan meets its condition.
pub record HasGuard (site : Site) (relay : ℕ) (guard : GuardState) : Type 0 where
  pub sound : IsSound site
  pub pairs : (input : ℕ) (class : Class) → Contains guard.pairs (input, class) ↔ IsGuarded site relay input class
  pub spares : guard.spares ≡ spares_at site relay
  pub may : MayGuard (plan_at site relay) guard

-- there is no guard where the site isn't checked, and else that one
abbrev pub IsGuardOf : Bool → Site → ℕ → Option GuardState → Type 0
IsGuardOf true site relay guard = guard ≡ None
IsGuardOf false site relay guard = (held : GuardState) × (guard ≡ Some held) × HasGuard site relay held
