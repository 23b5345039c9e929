-- Numbers of the queues and of the lists of a site, and that they fall wherever messages of a class may go on.
use Rattle.std.specs.Prelude.{◌≡◌, ℕ, ◌<◌, ◌+◌, ◌*◌, true, false, Bool, List, Some, get_or, length}
use Rattle.sy_wire.specs.declared.class.Class.{Class}
use Rattle.sy_rules.specs.declared.lists.occurrence.Occurrence.{Occurrence}
use Rattle.sy_rules.specs.declared.lists.occurrence.Occurrence.TheVariants as occurrence
use Rattle.sy_rules.specs.Whole.{queue_for}
use Rattle.sy_board.specs.relay.Plans.{input_at, queue_of_input}
use Rattle.sy_board.specs.relay.Spares.{Scope}
use Rattle.sy_site.specs.declared.site.SiteInput.{SiteInput}
use Rattle.sy_site.specs.Sites.{Site, plan_at, target}
use Rattle.sy_site.specs.machine.Lawful.{IsInput}
use Rattle.sy_site.specs.machine.Reach.{MayDo, list_of}
use Rattle.sy_flowing.specs.Flowing.{HoldsPosts, MayFollow, SiteList, SiteQueue}
use Rattle.sy_waits.specs.declared.places.Of.{Of}
use Rattle.sy_waits.specs.declared.places.Of.TheVariants as of

-- ---- numbers by places

-- where the number of a queue or a list of a relay stands
abbrev pub place_of : (relay number : ℕ) → ℕ
place_of relay number = 513 * relay + number

-- the number of a queue, of a list
abbrev pub height_in : List ℕ → SiteQueue → ℕ
height_in numbers queue = get_or numbers (place_of queue.relay queue.queue) 0

abbrev pub left_in : List ℕ → SiteList → ℕ
left_in numbers list = get_or numbers (place_of list.relay list.list) 0

-- where that of a list's queue, or of the list, stands
abbrev pub list_place : Site → Of → (relay list : ℕ) → ℕ
list_place site of.Queues relay list = place_of relay (queue_for (plan_at site relay) list)
list_place site of.Lists relay list = place_of relay list

-- the same of an input
abbrev pub input_place : Site → Of → SiteInput → ℕ
input_place site of.Queues input = place_of input.relay (queue_of_input (plan_at site input.relay) input.input)
input_place site of.Lists input = place_of input.relay (list_of site input)

abbrev pub list_number : Site → Of → List ℕ → (relay list : ℕ) → ℕ
list_number site by numbers relay list = get_or numbers (list_place site by relay list) 0

abbrev pub input_number : Site → Of → List ℕ → SiteInput → ℕ
input_number site by numbers input = get_or numbers (input_place site by input) 0

-- ---- numbers that fall

-- Posts into the queue wait there.
abbrev pub Holds : Site → (relay queue : ℕ) → Type 0
Holds site relay queue = HoldsPosts (plan_at site relay) queue

-- A post counts where it waits; of lists each one does.
abbrev pub Counts : Site → Of → (relay list : ℕ) → Type 0
Counts site of.Queues relay list = Holds site relay (queue_for (plan_at site relay) list)
Counts site of.Lists relay list = Unit {0}

-- What an occurrence leads to has a lower number than this.
abbrev pub Falls : Site → Of → List ℕ → (relay here : ℕ) → Occurrence → Type 0
Falls site by numbers relay here (occurrence.Run action) = (to : SiteInput) → target site (record { relay = relay; action = action }) ≡ Some to
    → input_number site by numbers to < here
Falls site by numbers relay here (occurrence.Post list) = Counts site by relay list → list_number site by numbers relay list < here

-- They fall wherever messages of the class may go on from a list that they may follow.
abbrev pub ClassFits : Site → Class → Of → List ℕ → Type 0
ClassFits site class by numbers = (relay list number : ℕ) (is : Occurrence) → MayFollow site class relay list
    → MayDo site class Scope.Every relay list number is → Falls site by numbers relay (list_number site by numbers relay list) is

-- the same of each class
abbrev pub AllFit : Site → Of → List ℕ → Type 0
AllFit site by numbers = (class : Class) → ClassFits site class by numbers

-- There are such numbers of queues, for all classes at once.
abbrev pub HaveHeights : Site → Type 0
HaveHeights site = (numbers : List ℕ) × AllFit site of.Queues numbers

-- There are such numbers of lists, for the class.
abbrev pub HaveLeft : Site → Class → Type 0
HaveLeft site class = (numbers : List ℕ) × ClassFits site class of.Lists numbers

abbrev pub AllHaveLeft : Site → Type 0
AllHaveLeft site = (class : Class) → HaveLeft site class

-- ---- lists one by one

-- The list is marked as one that messages may follow.
abbrev pub IsMarked : List Bool → (relay list : ℕ) → Type 0
IsMarked marks relay list = get_or marks (place_of relay list) false ≡ true

-- An occurrence fits: the number falls by it, and what is posted to is marked.
abbrev pub Fits : Site → Of → List ℕ → List Bool → (relay here : ℕ) → Occurrence → Type 0
Fits site by numbers marks relay here (occurrence.Run action) = Falls site by numbers relay here (occurrence.Run action)
Fits site by numbers marks relay here (occurrence.Post list) =
    Falls site by numbers relay here (occurrence.Post list) × IsMarked marks relay list

-- Where the list is marked, each occurrence fits that messages of the class may execute.
abbrev pub ListFits : Site → Class → Of → List ℕ → List Bool → (relay list : ℕ) → Type 0
ListFits site class by numbers marks relay list = IsMarked marks relay list → (number : ℕ) (is : Occurrence)
    → MayDo site class Scope.Every relay list number is → Fits site by numbers marks relay (list_number site by numbers relay list) is

-- each list of a relay does
abbrev pub RelayFits : Site → Class → Of → List ℕ → List Bool → ℕ → Type 0
RelayFits site class by numbers marks relay = (list : ℕ) → list < length (plan_at site relay).lists → ListFits site class by numbers marks relay list

-- The list of each input of a relay is marked.
abbrev pub AreInputsMarked : Site → List Bool → ℕ → Type 0
AreInputsMarked site marks relay = (input : ℕ) → IsInput site (record { relay = relay; input = input })
    → IsMarked marks relay (list_of site (record { relay = relay; input = input }))

-- of the relays below a number
abbrev pub RelaysFitBelow : Site → Class → Of → List ℕ → List Bool → ℕ → Type 0
RelaysFitBelow site class by numbers marks most = (relay : ℕ) → relay < most
    → AreInputsMarked site marks relay × RelayFits site class by numbers marks relay
