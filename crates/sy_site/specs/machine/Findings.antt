-- What the checker may find in a site: ten kinds, by number, each a condition on plans and spare actions alone (this profile's own).
use Rattle.std.specs.Prelude.{◌≡◌, ℕ, true, List, [], ◌∷◌, Option, Some, None, map, slice_get}
use Rattle.std.specs.List.{Contains}
use Rattle.sy_wire.specs.declared.class.Class.{Class}
use Rattle.sy_rules.specs.declared.parameters.objects.Destination.{Destination}
use Rattle.sy_rules.specs.declared.parameters.objects.Destination.TheVariants as destination
use Rattle.sy_rules.specs.declared.parts.Action.{Action}
use Rattle.sy_board.specs.relay.Kinds as kinds
use Rattle.sy_board.specs.relay.Spares.{Scope}
use Rattle.sy_site.specs.Sites.{Site, SiteInput, SiteAction, archives, is_protected, plan_at, spares_at, target}
use Rattle.sy_site.specs.machine.Reach.{Follows, LeadsTo, PostsOn, Reach, Reaches, list_of}

pub data Kind : Type 0 where
  NotFull MarkOff MarkAboveSize Discards InnerQueue GivesUp NoTarget Loop InnerLoop : Kind
  -- which archive isn't led to
  Unmet : SiteAction → Kind

abbrev pub kind_number : Kind → ℕ
kind_number Kind.NotFull = 1
kind_number Kind.MarkOff = 2
kind_number Kind.MarkAboveSize = 3
kind_number Kind.Discards = 4
kind_number Kind.InnerQueue = 5
kind_number Kind.GivesUp = 6
kind_number Kind.NoTarget = 7
kind_number Kind.Loop = 8
kind_number (Kind.Unmet archive) = 9
kind_number Kind.InnerLoop = 10

-- the condition of a kind that is one of the relay's plan and spare actions alone
abbrev pub HoldsInPlan : Site → Class → SiteInput → kinds.Kind → Type 0
HoldsInPlan site class input kind = kinds.HoldsAt (plan_at site input.relay) (spares_at site input.relay) class input.input kind

-- an action that a message of the class may execute, with its number; it isn't spare
abbrev pub MayRun : Site → Class → SiteInput → ℕ → Type 0
MayRun site class input action = kinds.MayRun (plan_at site input.relay) (spares_at site input.relay) class input.input action

abbrev pub IsForward : Option Action → Type 0
IsForward None = ⊥
IsForward (Some action) = sends action.destination where
  sends : Destination → Type 0
  sends (destination.Archive file) = ⊥
  sends (destination.Forward name port) = Unit {0}

-- it may be put into queue after queue, to a list that it followed before; none of these posts is spare
pub record IsInnerLoop (site : Site) (class : Class) (input : SiteInput) : Type 0 where
  pub list : ℕ
  pub follows : Follows site class Scope.Firm input list
  pub again : PostsOn site class Scope.Firm input.relay list list

-- The kind's condition on an input, for a class: the first six are of its relay alone. Of kinds 8 and 9 see below.
abbrev pub HoldsAt : Site → Class → SiteInput → Kind → Type 0
HoldsAt site class input Kind.NotFull = HoldsInPlan site class input kinds.Kind.NotFull
HoldsAt site class input Kind.MarkOff = HoldsInPlan site class input kinds.Kind.MarkOff
HoldsAt site class input Kind.MarkAboveSize = HoldsInPlan site class input kinds.Kind.MarkAboveSize
HoldsAt site class input Kind.Discards = HoldsInPlan site class input kinds.Kind.Discards
HoldsAt site class input Kind.InnerQueue = HoldsInPlan site class input kinds.Kind.InnerQueue
HoldsAt site class input Kind.GivesUp = HoldsInPlan site class input kinds.Kind.GivesUp
HoldsAt site class input Kind.NoTarget =
    (action : ℕ) × MayRun site class input action × IsForward (slice_get (plan_at site input.relay).actions action)
    × (target site (record { relay = input.relay; action = action }) ≡ None)
HoldsAt site class input Kind.InnerLoop = IsInnerLoop site class input
HoldsAt site class input _ = ⊥

-- ---- ways

-- a part of a way: an occurrence of an input's list
pub record WayRow : Type 0 where
  pub input : SiteInput
  pub number : ℕ

-- From an input each row's occurrence reaches the next row's input, and the last row's the end, by no spare occurrence.
abbrev pub IsWayFrom : Site → Class → SiteInput → List WayRow → SiteInput → Type 0
IsWayFrom site class from [] end = from ≡ end
IsWayFrom site class from (row ∷ way) end =
    (row.input ≡ from)
    × (to : SiteInput) × Reaches site class Scope.Firm from.relay (list_of site from) row.number to × IsWayFrom site class to way end

-- A way from some entry; without rows the input itself is an entry.
pub record IsWay (site : Site) (class : Class) (way : List WayRow) (end : SiteInput) : Type 0 where
  pub entry : SiteInput
  pub is_entry : Contains site.entries entry
  pub follows : IsWayFrom site class entry way end

-- the row's input is reached, and its occurrence reaches the other input, by spare ones too
abbrev pub IsHop : Site → Class → WayRow → SiteInput → Type 0
IsHop site class row to =
    Reach site class Scope.Every row.input × Reaches site class Scope.Every row.input.relay (list_of site row.input) row.number to

-- From relay to relay: each row's input is reached, and its occurrence reaches the next row's relay; the last row's reaches the end.
abbrev pub IsChain : Site → Class → List WayRow → SiteInput → Type 0
IsChain site class [] end = ⊥
IsChain site class (row ∷ []) end = IsHop site class row end
IsChain site class (row ∷ next ∷ way) end =
    (to : SiteInput) × IsHop site class row to × (to.relay ≡ next.input.relay) × IsChain site class (next ∷ way) end

abbrev pub first_is_entry : Site → List WayRow → Type 0
first_is_entry site [] = ⊥
first_is_entry site (row ∷ way) = Contains site.entries row.input

-- a relay is met twice
pub record IsLoop (site : Site) (class : Class) (way : List WayRow) (end : SiteInput) : Type 0 where
  pub starts : first_is_entry site way
  pub chain : IsChain site class way end
  pub met_before : Contains (map (λ row. row.input.relay) way) end.relay

-- an archive that the policy names isn't led to from the entry
pub record IsUnmet (site : Site) (class : Class) (archive : SiteAction) (input : SiteInput) : Type 0 where
  pub named : Contains (archives site class) archive
  pub is_entry : Contains site.entries input
  pub leads_not : LeadsTo site class archive input → ⊥

-- ---- a true finding

abbrev pub IsFound : Site → Class → List WayRow → SiteInput → Kind → Type 0
IsFound site class way input Kind.Loop = IsLoop site class way input
IsFound site class way input (Kind.Unmet archive) = (way ≡ []) × IsUnmet site class archive input
IsFound site class way input kind = IsWay site class way input × HoldsAt site class input kind

pub record IsFinding (site : Site) (class : Class) (way : List WayRow) (input : SiteInput) (kind : Kind) : Type 0 where
  pub protected : is_protected site class ≡ true
  pub found : IsFound site class way input kind
