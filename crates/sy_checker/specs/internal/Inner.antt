-- How many posts may follow one another from the lists of a relay, of those that may be executed and aren't spare; and what is said by the functions that
-- look for such a list that is met twice.
use Rattle.std.specs.Prelude.{[], ◌≡◌, ℕ, ◌==◌, ◌<◌, ◌≤◌, ◌+◌, if◌then◌else◌, Contains, List, ◌∷◌, ◌++◌, Option, Some, None, length, map, slice_get}
use Rattle.sy_wire.specs.declared.class.Class.{Class}
use Rattle.sy_rules.specs.declared.lists.occurrence.Occurrence.TheVariants as occurrence
use Rattle.sy_board.specs.relay.Spares.{Scope}
use Rattle.sy_site.specs.declared.site.SiteInput.{SiteInput}
use Rattle.sy_site.specs.Sites.{Site, plan_at}
use Rattle.sy_site.specs.machine.Findings.{IsInnerLoop}
use Rattle.sy_site.specs.machine.Reach.{Follows, MayDo, PostsOn, list_of, occurrence_at}
use Rattle.sy_checker.specs.declared.inner.Halt.{Halt}
use Rattle.sy_checker.specs.declared.inner.Halt.TheVariants as halt
use Rattle.sy_checker.specs.declared.inner.ListNumber.{ListNumber}
use Rattle.sy_checker.specs.declared.inner.RelayNumbers.{RelayNumbers}
use Rattle.sy_checker.specs.declared.inner.Unnumbered.{Unnumbered}
use Rattle.sy_checker.specs.declared.inner.Unnumbered.TheVariants as unnumbered
use Rattle.sy_flows.specs.declared.lists.InnerList.{InnerList}
use Rattle.sy_fit.specs.Fit.{IsInner}
use Rattle.sy_flows.specs.Flows.{AreEach}
use Rattle.sy_flows.specs.Hops.{AreApart}

-- ---- numbers of lists

-- the number of a list of a relay; 0 where it has none
abbrev pub number_in : List ListNumber → ℕ → ℕ
number_in [] list = 0
number_in (x ∷ xs) list = if x.list == list then x.number else number_in xs list

abbrev pub number_of : Option RelayNumbers → ℕ → ℕ
number_of None list = 0
number_of (Some numbers) list = number_in numbers.lists.items list

abbrev pub number_at : List RelayNumbers → ℕ → ℕ → ℕ
number_at numbers relay list = number_of (slice_get numbers relay) list

-- a firm post of a list that may be executed leads to the other
abbrev pub PostsTo : Site → Class → ℕ → ℕ → ℕ → Type 0
PostsTo site class relay list to = (post : ℕ) × MayDo site class Scope.Firm relay list post (occurrence.Post to)

-- Numbers fall along posts: that of each list that posts lead to from an input that is reached without spare occurrences is above those of the lists that
-- its own posts lead to.
abbrev pub AreNumbers : Site → Class → (ℕ → ℕ → ℕ) → Type 0
AreNumbers site class number = (inner : InnerList) (to : ℕ) → IsInner site class inner → PostsTo site class inner.relay inner.list to
    → number inner.relay to < number inner.relay inner.list

-- ---- how many posts follow one another

-- so many do from a list
pub data PostsFollow (site : Site) (class : Class) (relay : ℕ) : ℕ → ℕ → Type 0 where
  ends : {list : ℕ} → PostsFollow site class relay list 0
  goes_on : {list to n : ℕ} → PostsTo site class relay list to → PostsFollow site class relay to n → PostsFollow site class relay list (n + 1)

-- each number is the greatest that do
abbrev pub AreGreatest : Site → Class → (ℕ → ℕ → ℕ) → Type 0
AreGreatest site class number = (inner : InnerList) → IsInner site class inner → PostsFollow site class inner.relay inner.list (number inner.relay inner.list)
    × ((m : ℕ) → PostsFollow site class inner.relay inner.list m → m ≤ number inner.relay inner.list)

-- ---- numbers so far

-- the list is one of these
pub record IsDone (done : List ListNumber) (list : ℕ) : Type 0 where
  pub entry : ListNumber
  pub there : Contains done entry
  pub is : entry.list ≡ list

-- and its number is below
pub record IsDoneBelow (done : List ListNumber) (list most : ℕ) : Type 0 where
  pub entry : ListNumber
  pub there : Contains done entry
  pub is : entry.list ≡ list
  pub below : entry.number < most

-- Each list that is done has the greatest number of posts that follow: each list that its posts lead to is done too, with a smaller number.
pub record AreDone (site : Site) (class : Class) (relay : ℕ) (done : List ListNumber) : Type 0 where
  pub apart : AreApart (length (plan_at site relay).lists) (map (λ (x : ListNumber). x.list) done)
  pub falls : (x : ListNumber) (to : ℕ) → Contains done x → PostsTo site class relay x.list to → IsDoneBelow done to x.number
  pub follow : (x : ListNumber) → Contains done x → PostsFollow site class relay x.list x.number
  pub small : (x : ListNumber) → Contains done x → x.number < length done

-- nothing is undone, and no number changes
abbrev pub KeepsDone : List ListNumber → List ListNumber → Type 0
KeepsDone old new = (more : List ListNumber) × (new ≡ old ++ more)

-- none of the lists on a way is done
abbrev pub AreOpen : List ℕ → List ListNumber → Type 0
AreOpen way done = (list : ℕ) → Contains way list → IsDone done list → ⊥

-- The list is followed from the input on, and from each list on the way posts lead to it.
pub record IsOnWay (site : Site) (class : Class) (input : SiteInput) (way : List ℕ) (list : ℕ) : Type 0 where
  pub follows : Follows site class Scope.Firm input list
  pub leads : (before : ℕ) → Contains way before → PostsOn site class Scope.Firm input.relay before list
  pub apart : AreApart (length (plan_at site input.relay).lists) way

-- The same of each list that its own posts lead to.
pub record AreOnWay (site : Site) (class : Class) (input : SiteInput) (way : List ℕ) (list : ℕ) : Type 0 where
  pub each : (to : ℕ) → PostsTo site class input.relay list to → IsOnWay site class input way to

-- The number that an occurrence of a list asks for: one more than that of the list that it leads to, where it is a post; else 0.
pub record IsAskedBy (site : Site) (class : Class) (relay : ℕ) (done : List ListNumber) (list at number : ℕ) : Type 0 where
  pub above : (to : ℕ) → MayDo site class Scope.Firm relay list at (occurrence.Post to) → IsDoneBelow done to number
  pub follow : PostsFollow site class relay list number
  pub small : number ≤ length done

-- the occurrence of a list that has this number isn't a post
abbrev pub IsNoPost : Site → ℕ → ℕ → ℕ → Type 0
IsNoPost site relay list at = (to : ℕ) → occurrence_at site relay list at ≡ Some (occurrence.Post to) → ⊥

-- that all of them ask for
pub record IsAsked (site : Site) (class : Class) (relay : ℕ) (done : List ListNumber) (list number : ℕ) : Type 0 where
  pub above : (to : ℕ) → PostsTo site class relay list to → IsDoneBelow done to number
  pub follow : PostsFollow site class relay list number
  pub small : number ≤ length done

-- all lists that posts lead to from the input's own are done
abbrev pub AreAllDone : Site → Class → SiteInput → List ListNumber → Type 0
AreAllDone site class input done = (to : ℕ) → PostsOn site class Scope.Firm input.relay (list_of site input) to → IsDone done to

-- ---- numbers of all relays

abbrev pub AreNumbered : Site → Class → List RelayNumbers → Type 0
AreNumbered site class numbers = AreEach (λ relay own. AreDone site class relay own.lists.items) (length site.relays) numbers

abbrev pub KeepsNumbers : List RelayNumbers → List RelayNumbers → Type 0
KeepsNumbers old new = (relay : ℕ) (own : RelayNumbers) → slice_get old relay ≡ Some own
    → (after : RelayNumbers) × (slice_get new relay ≡ Some after) × KeepsDone own.lists.items after.lists.items

-- all lists that posts lead to from the input's own have numbers
pub record HasNumbers (site : Site) (class : Class) (numbers : List RelayNumbers) (input : SiteInput) : Type 0 where
  pub own : RelayNumbers
  pub stands : slice_get numbers input.relay ≡ Some own
  pub done : AreAllDone site class input own.lists.items

-- no list of a relay has a number
abbrev pub HasNone : ℕ → RelayNumbers → Type 0
HasNone relay own = own.lists.items ≡ []

-- ---- why the search ends

abbrev pub IsHalted : Site → Class → SiteInput → Halt → Type 0
IsHalted site class input halt.NoMemory = Unit {0}
IsHalted site class input halt.Loop = IsInnerLoop site class input

-- at one of these inputs, the one at this place
pub record IsLoopAt (site : Site) (class : Class) (inputs : List SiteInput) (place : ℕ) : Type 0 where
  pub input : SiteInput
  pub stands : slice_get inputs place ≡ Some input
  pub loops : IsInnerLoop site class input

abbrev pub HasNoNumbers : Site → Class → List SiteInput → Unnumbered → Type 0
HasNoNumbers site class inputs unnumbered.NoMemory = Unit {0}
HasNoNumbers site class inputs (unnumbered.Loop place) = IsLoopAt site class inputs place

abbrev pub ended_so : Halt → ℕ → Unnumbered
ended_so halt.Loop place = unnumbered.Loop place
ended_so halt.NoMemory place = unnumbered.NoMemory
