-- What every site that was read keeps (this profile's own).
use Rattle.std.specs.Prelude.{◌≡◌, ℕ, ◌≤◌, ◌⊎◌, false, List, [], Some, All, length, slice_get}
use Rattle.sy_rules.specs.declared.parameters.objects.Destination.TheVariants as destination
use Rattle.sy_rules.specs.declared.parts.Action.{Action}
use Rattle.sy_rules.specs.declared.parts.Input.{Input}
use Rattle.sy_rules.specs.Whole.{IsWhole}
use Rattle.sy_site.specs.Sites.{Site, SiteAction, SiteInput, is_spare, plan_at}
use Rattle.sy_site.specs.texts.Files.{RELAYS}

-- the action is there
pub record IsAction (site : Site) (action : SiteAction) : Type 0 where
  pub parts : Action
  pub found : slice_get (plan_at site action.relay).actions action.action ≡ Some parts

-- the action is there, and writes a file
pub record IsArchive (site : Site) (action : SiteAction) : Type 0 where
  pub parts : Action
  pub found : slice_get (plan_at site action.relay).actions action.action ≡ Some parts
  pub file : List ℕ
  pub writes : parts.destination ≡ destination.Archive file

-- the input is there
pub record IsInput (site : Site) (input : SiteInput) : Type 0 where
  pub parts : Input
  pub found : slice_get (plan_at site input.relay).inputs input.input ≡ Some parts

-- Each plan is whole: the numbers in it exist. Each entry is there, each archive that is named is one, and each spare action is there and is no such
-- archive. The site has no more relays than may be, and spare actions by policy 2 alone.
pub record IsLawful (site : Site) : Type 0 where
  pub policy : ((site.policy ≡ 1) × (site.spares ≡ [])) ⊎ (site.policy ≡ 2)
  pub few : length site.relays ≤ RELAYS
  pub plans : All (λ relay. IsWhole relay.plan) site.relays
  pub entries : All (IsInput site) site.entries
  pub archives : All (λ protection. IsArchive site protection.archive) site.protections
  pub spares : All (IsAction site) site.spares
  pub spare_archives : All (λ protection. is_spare site protection.archive ≡ false) site.protections
