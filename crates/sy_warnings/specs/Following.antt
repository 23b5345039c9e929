-- Which lists messages of a class come to, and what they execute there: from where they are followed, list after list (this profile's own).
use Rattle.std.specs.Prelude.{◌≡◌, ℕ, ◌<◌, true, Contains, Option, Some, None, length, option_map}
use Rattle.sy_wire.specs.declared.class.Class.{Class}
use Rattle.sy_rules.specs.declared.lists.occurrence.Occurrence.{Occurrence}
use Rattle.sy_rules.specs.declared.lists.occurrence.Occurrence.TheVariants as occurrence
use Rattle.sy_board.specs.relay.Spares.{Scope}
use Rattle.sy_site.specs.Sites.{Site, is_protected, plan_at, target}
use Rattle.sy_site.specs.declared.site.SiteInput.{SiteInput}
use Rattle.sy_site.specs.machine.Lawful.{IsInput}
use Rattle.sy_site.specs.machine.Reach.{MayDo, list_of}
use Rattle.sy_warnings.specs.declared.following.Following.{Following}
use Rattle.sy_warnings.specs.declared.following.Following.TheVariants as following
use Rattle.sy_warnings.specs.declared.following.SiteList.{SiteList}

-- ---- from where, and by what

-- Of protected classes: from the entries on, by occurrences that aren't spare. Of all classes: from every input on, by every occurrence.
abbrev pub IsAsked : Site → Following → Class → Type 0
IsAsked site following.Firm class = is_protected site class ≡ true
IsAsked site following.Every class = Unit {0}

abbrev pub IsStart : Site → Following → SiteInput → Type 0
IsStart site following.Firm input = Contains site.entries input
IsStart site following.Every input = IsInput site input

abbrev pub scope_of : Following → Scope
scope_of following.Firm = Scope.Firm
scope_of following.Every = Scope.Every

-- ---- the lists that messages come to

-- the list of an input
abbrev pub list_at : Site → SiteInput → SiteList
list_at site input = record { relay = input.relay; list = list_of site input }

-- the list that an occurrence leads on to: a post to its list, a forward to that of the input that it leads to
abbrev pub leads_on : Site → ℕ → Occurrence → Option SiteList
leads_on site relay (occurrence.Run action) = option_map (list_at site) (target site (record { relay = relay; action = action }))
leads_on site relay (occurrence.Post inner) = Some (record { relay = relay; list = inner })

-- an occurrence of the list that messages of the class may execute leads on to the other one
pub record Leads (site : Site) (class : Class) (by : Following) (from : SiteList) (number : ℕ) (to : SiteList) : Type 0 where
  pub is : Occurrence
  pub does : MayDo site class (scope_of by) from.relay from.list number is
  pub leads : leads_on site from.relay is ≡ Some to

-- Messages of the class may come to the list: it is that of an input where they start, or they come to a list that leads on to it.
pub data Comes (site : Site) (class : Class) (by : Following) : SiteList → Type 0 where
  starts : (input : SiteInput) → IsStart site by input → Comes site class by (list_at site input)
  onward : (from to : SiteList) (number : ℕ) → Comes site class by from → Leads site class by from number to → Comes site class by to

-- ---- what is executed

-- Messages of some class that is asked for come to the list, and may execute the occurrence.
pub record IsExecuted (site : Site) (by : Following) (at : SiteList) (number : ℕ) (is : Occurrence) : Type 0 where
  pub class : Class
  pub asked : IsAsked site by class
  pub comes : Comes site class by at
  pub does : MayDo site class (scope_of by) at.relay at.list number is
