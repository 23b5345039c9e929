-- Lists that are found one after another, and where they are marked.
use Rattle.std.specs.Prelude.{◌≡◌, ℕ, true, ◌<◌, ◌+◌, ◌*◌, ◌==◌, ◌&&◌, ◌↔◌, Bool, Contains, List, ◌++◌, Option, Some, None, false, get_or, length}
use Rattle.std.specs.List.{IsDistinct}
use Rattle.sy_wire.specs.declared.class.Class.{Class}
use Rattle.sy_rules.specs.declared.lists.occurrence.Occurrence.{Occurrence}
use Rattle.sy_board.specs.relay.Spares as spares
use Rattle.sy_site.specs.Sites.{Site, plan_at, spares_at}
use Rattle.sy_site.specs.declared.site.SiteInput.{SiteInput}
use Rattle.sy_site.specs.machine.Lawful.{IsInput}
use Rattle.sy_site.specs.machine.Reach.{MayDo}
use Rattle.sy_warnings.specs.declared.coming.ClassLists.{ClassLists}
use Rattle.sy_warnings.specs.declared.following.Following.{Following}
use Rattle.sy_warnings.specs.declared.following.SiteList.{SiteList}
use Rattle.sy_warnings.specs.Following.{Comes, IsAsked, IsStart, Leads, scope_of}

abbrev pub same_list : SiteList → SiteList → Bool
same_list a b = a.relay == b.relay && a.list == b.list

-- The list is there.
pub record IsThere (site : Site) (at : SiteList) : Type 0 where
  pub relay : at.relay < length site.relays
  pub list : at.list < length (plan_at site at.relay).lists

-- the occurrence is of those that are followed
abbrev pub IsInScope : Site → Following → ℕ → Occurrence → Type 0
IsInScope site by relay is = spares.IsInScope (plan_at site relay) (spares_at site relay) (scope_of by) is

-- which occurrence messages of the class may execute of a list, by its number; none where they don't
abbrev pub IsDone : Site → Class → Following → SiteList → ℕ → Option Occurrence → Type 0
IsDone site class by at number (Some is) = MayDo site class (scope_of by) at.relay at.list number is
IsDone site class by at number None = (is : Occurrence) → MayDo site class (scope_of by) at.relay at.list number is → ⊥

-- where it is marked: a relay has 513 lists at most
abbrev pub mark_of : SiteList → ℕ
mark_of at = 513 * at.relay + at.list

abbrev pub IsMarked : List Bool → SiteList → Type 0
IsMarked marks at = get_or marks (mark_of at) false ≡ true

-- Messages come to each of these, each is there and stands once, and exactly these are marked.
pub record AreFound (site : Site) (class : Class) (by : Following) (lists : List SiteList) (marks : List Bool) : Type 0 where
  pub there : (x : SiteList) → Contains lists x → IsThere site x
  pub come : (x : SiteList) → Contains lists x → Comes site class by x
  pub distinct : IsDistinct same_list lists
  pub many : length marks ≡ 32832
  pub marked : (x : SiteList) → IsThere site x → IsMarked marks x → Contains lists x
  pub kept : (x : SiteList) → Contains lists x → IsMarked marks x

-- More are put behind them.
pub record HasMore (old new : List SiteList) : Type 0 where
  pub more : List SiteList
  pub whole : new ≡ old ++ more

-- where an occurrence leads; none where it doesn't
abbrev pub IsLead : Site → Class → Following → SiteList → ℕ → Option SiteList → Type 0
IsLead site class by from number (Some to) = Leads site class by from number to
IsLead site class by from number None = (to : SiteList) → Leads site class by from number to → ⊥

-- All that the list leads on to is found.
abbrev pub IsLed : Site → Class → Following → List SiteList → SiteList → Type 0
IsLed site class by lists from = (number : ℕ) (to : SiteList) → Leads site class by from number to → Contains lists to

-- The marks are those of all lists that messages of the class come to.
pub record AreMarks (site : Site) (class : Class) (by : Following) (marks : List Bool) : Type 0 where
  pub many : length marks ≡ 32832
  pub sound : (x : SiteList) → IsThere site x → IsMarked marks x → Comes site class by x
  pub whole : (x : SiteList) → Comes site class by x → IsMarked marks x

-- the inputs where messages start, each of them there
pub record AreStarts (site : Site) (by : Following) (inputs : List SiteInput) : Type 0 where
  pub there : (x : SiteInput) → Contains inputs x → IsInput site x
  pub start : (x : SiteInput) → Contains inputs x → IsStart site by x
  pub whole : (x : SiteInput) → IsStart site by x → Contains inputs x

-- the inputs of the relays below a number
pub record AreInputsBelow (site : Site) (most : ℕ) (inputs : List SiteInput) : Type 0 where
  pub there : (x : SiteInput) → Contains inputs x → IsInput site x
  pub whole : (x : SiteInput) → IsInput site x → x.relay < most → Contains inputs x

-- of a class that is asked for
pub record AreOfClass (site : Site) (by : Following) (lists : ClassLists) : Type 0 where
  pub asked : IsAsked site by lists.class
  pub marks : AreMarks site lists.class by lists.marks.items

-- of each class that is asked for, of those below a number, and no other
pub record AreOfAllBelow (site : Site) (by : Following) (most : ℕ) (all : List ClassLists) : Type 0 where
  pub each : (lists : ClassLists) → Contains all lists → AreOfClass site by lists
  pub whole : (class : Class) → IsAsked site by class → 8 * class.facility + class.severity < most
      → (lists : ClassLists) × Contains all lists × (lists.class ≡ class)

-- of each class that is asked for, and no other
pub record AreOfAll (site : Site) (by : Following) (all : List ClassLists) : Type 0 where
  pub each : (lists : ClassLists) → Contains all lists → AreOfClass site by lists
  pub whole : (class : Class) → IsAsked site by class → (lists : ClassLists) × Contains all lists × (lists.class ≡ class)
