-- What the parts of a search from input to input say.
use Rattle.std.specs.Prelude.{◌≡◌, ℕ, ◌<◌, List, Option, Some, length, slice_get}
use Rattle.sy_wire.specs.declared.class.Class.{Class}
use Rattle.sy_site.specs.declared.site.SiteInput.{SiteInput}
use Rattle.sy_site.specs.Sites.{Site}
use Rattle.sy_flows.specs.declared.flows.executed.Executed.{Executed}
use Rattle.sy_flows.specs.declared.reach.Origin.{Origin}
use Rattle.sy_flows.specs.Search.{AreRooted}

-- and they stay so, with what is put
abbrev pub KeepsRoots : Site → Class → Executed → List SiteInput → List SiteInput → List (Option Origin) → List SiteInput → List (Option Origin) → Type 0
KeepsRoots site class which start old old_origins new new_origins =
    AreRooted site class which start old old_origins → AreRooted site class which start new new_origins

-- each stands behind where it was found from
pub record GoBack (found : List SiteInput) (origins : List (Option Origin)) : Type 0 where
  pub many : length origins ≡ length found
  pub before : (place : ℕ) (origin : Origin) → slice_get origins place ≡ Some (Some origin) → origin.place < place
