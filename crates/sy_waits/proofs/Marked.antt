-- Lists that messages may follow are marked, where those of inputs are and what is posted to from a marked list is.
use Rattle.std.proofs.Common.{◌≡◌, ℕ, ◌<◌, Bool, List, Option, Some, None, length, refl}
use Rattle.std.specs.Prelude.{slice_get}
use Rattle.std.proofs.lemmas.Option.{slice_get_within}
use Rattle.sy_wire.specs.declared.class.Class.{Class}
use Rattle.sy_rules.specs.declared.lists.occurrence.Occurrence.{Occurrence}
use Rattle.sy_rules.specs.declared.lists.occurrence.Occurrence.TheVariants as occurrence
use Rattle.sy_rules.specs.declared.parts.Input.{Input}
use Rattle.sy_rules.specs.PlanValue.{Listed}
use Rattle.sy_rules.specs.Whole.{body_in}
use Rattle.sy_rules.specs.lists.Body.{occurrences}
use Rattle.sy_board.specs.relay.Plans.{occurrences_at}
use Rattle.sy_board.specs.relay.Spares.{Scope, own, posted}
use Rattle.sy_site.specs.declared.site.SiteInput.{SiteInput}
use Rattle.sy_site.specs.Sites.{Relay, Site, plan_at, plan_in}
use Rattle.sy_site.specs.machine.Lawful.{IsInput}
use Rattle.sy_site.specs.machine.Reach.{Follows, MayDo, occurrence_at}
use Rattle.sy_flowing.specs.Flowing.{MayFollow}
use Rattle.sy_waits.specs.declared.places.Of.{Of}
use Rattle.sy_waits.specs.internal.Fits.{ClassFits, Falls, Fits, IsMarked, RelaysFitBelow, list_number}

no_value : {A : Type 0} {x : A} → None ≡ Some x → ⊥
no_value e = cc

-- ---- what is there

list_in : (site : Site) (relay list number : ℕ) (is : Occurrence) (found : Option Listed) → slice_get (plan_at site relay).lists list ≡ found
    → slice_get (occurrences (body_in found)) number ≡ Some is → list < length (plan_at site relay).lists
list_in site relay list number is None at here = absurd (no_value here)
list_in site relay list number is (Some l) at here = slice_get_within (plan_at site relay).lists list l at

-- a list with an occurrence
pub list_there : (site : Site) (relay list number : ℕ) (is : Occurrence) → occurrence_at site relay list number ≡ Some is
    → list < length (plan_at site relay).lists
list_there site relay list number is here = list_in site relay list number is (slice_get (plan_at site relay).lists list) refl here

plan_there : (found : Option Relay) (input : ℕ) (part : Input) → slice_get (plan_in found).inputs input ≡ Some part
    → (relay : Relay) × (found ≡ Some relay)
plan_there None input part none = absurd (no_value none)
plan_there (Some relay) input part is = (relay, refl)

-- the relay of an input
pub relay_there : (site : Site) (input : SiteInput) → IsInput site input → input.relay < length site.relays
relay_there site input is =
    let relay = plan_there (slice_get site.relays input.relay) input.input is.parts is.found in
    slice_get_within site.relays input.relay relay.0 relay.1

-- ---- what is marked

fits_falls : (site : Site) (by : Of) (numbers : List ℕ) (marks : List Bool) (relay here : ℕ) (is : Occurrence)
    → Fits site by numbers marks relay here is → Falls site by numbers relay here is
fits_falls site by numbers marks relay here (occurrence.Run action) fits = fits
fits_falls site by numbers marks relay here (occurrence.Post list) fits = fits.0

module _ (site : Site) (class : Class) (by : Of) (numbers : List ℕ) (marks : List Bool) (fit : RelaysFitBelow site class by numbers marks (length site.relays)) where
  -- what an occurrence of a marked list does
  fits_at : (relay list number : ℕ) (is : Occurrence) → relay < length site.relays → IsMarked marks relay list
      → MayDo site class Scope.Every relay list number is → Fits site by numbers marks relay (list_number site by numbers relay list) is
  fits_at relay list number is low marked does = (fit relay low).1 list (list_there site relay list number is does.found) marked number is does

  followed_marked : (relay input list : ℕ) → IsInput site (record { relay = relay; input = input })
      → Follows site class Scope.Every (record { relay = relay; input = input }) list → IsMarked marks relay list
  followed_marked relay input list is own = (fit relay (relay_there site (record { relay = relay; input = input }) is)).0 input is
  followed_marked relay input list is (posted {list = before} number follows does) =
      (fits_at relay before number (occurrence.Post list) (relay_there site (record { relay = relay; input = input }) is)
      (followed_marked relay input before is follows) does).1

  pub class_fits : ClassFits site class by numbers
  class_fits relay list number is follow does =
      fits_falls site by numbers marks relay (list_number site by numbers relay list) is
      (fits_at relay list number is (relay_there site (record { relay = relay; input = follow.0 }) follow.1)
      (followed_marked relay follow.0 list follow.1 follow.2) does)
