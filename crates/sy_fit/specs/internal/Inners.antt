-- The lists that posts lead to, in the order of the site, and how their numbers are compared.
use Rattle.std.specs.Prelude.{◌≡◌, ℕ, ◌<◌, ◌==◌, ◌&&◌, ◌↔◌, Bool, false, if◌then◌else◌, Contains, List, Option, Some, None, slice_get}
use Rattle.std.specs.Str.{bytes_eq}
use Rattle.sy_wire.specs.declared.class.Class.{Class}
use Rattle.sy_rules.specs.declared.lists.occurrence.Occurrence.TheVariants as occurrence
use Rattle.sy_board.specs.relay.Spares.{Scope}
use Rattle.sy_site.specs.declared.site.SiteInput.{SiteInput}
use Rattle.sy_site.specs.Sites.{Site}
use Rattle.sy_site.specs.machine.Reach.{MayDo, PostsOn, Reach, list_of}
use Rattle.sy_cert.specs.declared.row.Row.{Row}
use Rattle.sy_cert.specs.declared.row.Row.TheVariants as row
use Rattle.sy_flows.specs.declared.lists.InnerList.{InnerList}
use Rattle.sy_fit.specs.declared.rows.wanted.Wanted.{Wanted}
use Rattle.sy_fit.specs.declared.rows.wanted.Wanted.TheVariants as wanted
use Rattle.sy_fit.specs.Fit.{ComesBefore, HasNumber, IsInner, ListsAll}
use Rattle.sy_site.specs.Names.{name_of}
use Rattle.sy_flows.specs.Leads.{same_list}

-- ---- lists in the order of the site

-- posts lead to the list from one of these inputs
abbrev pub IsPosted : Site → Class → List SiteInput → ℕ → Type 0
IsPosted site class inputs list = (x : SiteInput) × Contains inputs x × PostsOn site class Scope.Firm x.relay (list_of site x) list

-- the inputs of a relay that are reached without spare occurrences
abbrev pub AreReachedOf : Site → Class → ℕ → List SiteInput → Type 0
AreReachedOf site class relay own = (x : SiteInput) → Contains own x ↔ (Reach site class Scope.Firm x × (x.relay ≡ relay))

-- those lists that stand before a place
pub record IsInnerBefore (site : Site) (class : Class) (relay list : ℕ) (x : InnerList) : Type 0 where
  pub is : IsInner site class x
  pub before : ComesBefore x (record { relay = relay; list = list })

abbrev pub AreInners : Site → Class → ℕ → ℕ → List InnerList → Type 0
AreInners site class relay list inners = ListsAll (IsInnerBefore site class relay list) ComesBefore inners

-- ---- where an inner row is wanted

-- In the order of a class's rows this one stands before the inner row of the list.
abbrev pub IsBeforeInner : InnerList → Wanted → Type 0
IsBeforeInner inner (wanted.Class class) = Unit {0}
IsBeforeInner inner (wanted.Reach input) = Unit {0}
IsBeforeInner inner (wanted.Branch input) = Unit {0}
IsBeforeInner inner (wanted.Rank relay) = Unit {0}
IsBeforeInner inner (wanted.Inner of) = ComesBefore of inner
IsBeforeInner inner (wanted.Path entry archive) = ⊥

abbrev pub IsBeforeAt : InnerList → Option Wanted → Type 0
IsBeforeAt inner None = ⊥
IsBeforeAt inner (Some is) = IsBeforeInner inner is

-- ---- numbers of rows

-- the number that a row gives a list
abbrev pub number_in : Site → InnerList → Row → Option ℕ
number_in site inner (row.Inner name list number) = if bytes_eq name (name_of site inner.relay) && (list == inner.list) then Some number else None
number_in site inner (row.Class class) = None
number_in site inner (row.Reach name port) = None
number_in site inner (row.Branch name port) = None
number_in site inner (row.Rank name rank) = None
number_in site inner (row.Path name port archive_relay action occurrences) = None

abbrev pub is_number_of : InnerList → Wanted → Bool
is_number_of inner (wanted.Inner of) = same_list of inner
is_number_of inner (wanted.Class class) = false
is_number_of inner (wanted.Reach input) = false
is_number_of inner (wanted.Branch input) = false
is_number_of inner (wanted.Rank relay) = false
is_number_of inner (wanted.Path entry archive) = false

abbrev pub number_given : Site → InnerList → Option Wanted → Option Row → Option ℕ
number_given site inner None r = None
number_given site inner (Some is) None = None
number_given site inner (Some is) (Some r) = if is_number_of inner is then number_in site inner r else None

-- the list's number is below, where its row stands at this place
abbrev pub IsLowerAt : Site → List Wanted → List Row → InnerList → ℕ → ℕ → Type 0
IsLowerAt site part rows inner number place =
    (below : ℕ) → number_given site inner (slice_get part place) (slice_get rows place) ≡ Some below → below < number

abbrev pub IsLower : Site → List Wanted → List Row → InnerList → ℕ → Type 0
IsLower site part rows inner number = (below : ℕ) → HasNumber site part rows inner below → below < number

-- of the list that a post leads to, where that isn't spare and may be executed
abbrev pub IsLowerBy : Site → Class → List Wanted → List Row → InnerList → ℕ → ℕ → Type 0
IsLowerBy site class part rows inner number post = (to : ℕ) → MayDo site class Scope.Firm inner.relay inner.list post (occurrence.Post to)
    → IsLower site part rows (record { relay = inner.relay; list = to }) number
