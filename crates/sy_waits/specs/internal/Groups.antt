-- Classes whose messages may execute the same of the lists that are marked, taken together.
use Rattle.std.specs.Prelude.{◌≡◌, ℕ, ◌<◌, ◌+◌, ◌*◌, Contains, List, length}
use Rattle.sy_wire.specs.declared.class.Class.{Class}
use Rattle.sy_rules.specs.declared.lists.occurrence.Occurrence.{Occurrence}
use Rattle.sy_board.specs.relay.Spares.{Scope}
use Rattle.sy_site.specs.Sites.{Site, plan_at}
use Rattle.sy_site.specs.machine.Reach.{MayDo}
use Rattle.sy_waits.specs.declared.groups.Group.{Group}
use Rattle.sy_waits.specs.declared.places.Of.{Of}
use Rattle.sy_waits.specs.declared.places.Of.TheVariants as of
use Rattle.sy_waits.specs.internal.Fits.{IsMarked, RelaysFitBelow}

-- What messages of the class may execute of a list those of the group may, where the list is marked.
abbrev pub AlikeIn : Site → Class → Group → (relay list : ℕ) → Type 0
AlikeIn site class group relay list = IsMarked group.marks.items relay list → (number : ℕ) (is : Occurrence)
    → MayDo site class Scope.Every relay list number is → MayDo site group.class Scope.Every relay list number is

-- of each list of a relay
abbrev pub AlikeAt : Site → Class → Group → ℕ → Type 0
AlikeAt site class group relay = (list : ℕ) → list < length (plan_at site relay).lists → AlikeIn site class group relay list

-- The class is of the group.
abbrev pub IsAlike : Site → Class → Group → Type 0
IsAlike site class group = (relay : ℕ) → relay < length site.relays → AlikeAt site class group relay

-- It is of one of these.
abbrev pub HasGroup : Site → Class → List Group → Type 0
HasGroup site class groups = (group : Group) × Contains groups group × IsAlike site class group

-- of the classes below a number, and of all
abbrev pub AreGroupsBelow : Site → ℕ → List Group → Type 0
AreGroupsBelow site most groups = (class : Class) → 8 * class.facility + class.severity < most → HasGroup site class groups

abbrev pub AreGroups : Site → List Group → Type 0
AreGroups site groups = (class : Class) → HasGroup site class groups

-- The numbers fit the group: they fall by each occurrence of its marked lists, and what is followed is marked.
abbrev pub GroupFits : Site → Of → List ℕ → Group → Type 0
GroupFits site by numbers group = RelaysFitBelow site group.class by numbers group.marks.items (length site.relays)

-- some numbers of lists do
abbrev pub GroupHasLeft : Site → Group → Type 0
GroupHasLeft site group = (numbers : List ℕ) × GroupFits site of.Lists numbers group
