-- What the parts of the walk over lists say.
use Rattle.std.specs.Prelude.{◌≡◌, ℕ, ◌<◌, ◌⊎◌, Bool, true, false, Contains, List, Some}
use Rattle.sy_wire.specs.declared.class.Class.{Class}
use Rattle.sy_rules.specs.declared.lists.occurrence.Occurrence.{Occurrence}
use Rattle.sy_rules.specs.declared.lists.occurrence.Occurrence.TheVariants as occurrence
use Rattle.sy_site.specs.declared.site.SiteInput.{SiteInput}
use Rattle.sy_site.specs.Sites.{Site, target}
use Rattle.sy_flows.specs.declared.flows.executed.Executed.{Executed}
use Rattle.sy_flows.specs.declared.flows.executed.Executed.TheVariants as executed
use Rattle.sy_flows.specs.declared.flows.Hop.{Hop}
use Rattle.sy_flows.specs.Flows.{Does}
use Rattle.sy_flows.specs.Hops.{Leads, LeadsByPosts}

-- whether posts are followed: what must be executed leads on by forwards alone
abbrev pub follows_posts : Executed → Bool
follows_posts executed.Every = true
follows_posts executed.Firm = true
follows_posts executed.Must = false

-- one of these leads there
pub record HasHop (hops : List Hop) (to : SiteInput) : Type 0 where
  pub hop : Hop
  pub there : Contains hops hop
  pub leads : hop.to ≡ to

-- The hop is put behind the others, where none of these leads there.
pub record AddsHop (number : ℕ) (to : SiteInput) (old new : List Hop) : Type 0 where
  pub kept : (hop : Hop) → Contains old hop → Contains new hop
  pub has : HasHop new to
  pub only : (hop : Hop) → Contains new hop → Contains old hop ⊎ ((hop.number ≡ number) × (hop.to ≡ to))

-- the same of the input that an action leads to
pub record AddsTarget (site : Site) (relay action number : ℕ) (old new : List Hop) : Type 0 where
  pub kept : (hop : Hop) → Contains old hop → Contains new hop
  pub has : (to : SiteInput) → target site (record { relay = relay; action = action }) ≡ Some to → HasHop new to
  pub only : (hop : Hop) → Contains new hop
      → Contains old hop ⊎ ((hop.number ≡ number) × (target site (record { relay = relay; action = action }) ≡ Some hop.to))

-- An occurrence was followed: of a forward the hops have the input, and of a post its list was gone through.
abbrev pub IsFollowed : Site → Executed → ℕ → List Hop → List ℕ → Occurrence → Type 0
IsFollowed site which relay hops lists (occurrence.Run action) =
    (to : SiteInput) → target site (record { relay = relay; action = action }) ≡ Some to → HasHop hops to
IsFollowed site which relay hops lists (occurrence.Post inner) = follows_posts which ≡ true → Contains lists inner

-- each of a list that is executed
abbrev pub IsWalked : Site → Class → Executed → ℕ → List Hop → List ℕ → ℕ → Type 0
IsWalked site class which relay hops lists list =
    (number : ℕ) (is : Occurrence) → Does site class which relay list number is → IsFollowed site which relay hops lists is

-- of those below a number
abbrev pub IsWalkedBelow : Site → Class → Executed → ℕ → List Hop → List ℕ → ℕ → ℕ → Type 0
IsWalkedBelow site class which relay hops lists list most =
    (number : ℕ) → number < most → (is : Occurrence) → Does site class which relay list number is → IsFollowed site which relay hops lists is

-- What an occurrence of a list leads to, another one of the first list leads to.
abbrev pub LeadsAsWell : Site → Class → Executed → ℕ → ℕ → ℕ → ℕ → ℕ → Type 0
LeadsAsWell site class which relay list at first number =
    (to : SiteInput) → Leads site class which relay list at to → Leads site class which relay first number to

-- What was found grows: nothing is forgotten, and a list that is new was gone through.
pub record WalksOn (site : Site) (class : Class) (which : Executed) (relay : ℕ) (old_hops : List Hop) (old_lists : List ℕ) (hops : List Hop)
    (lists : List ℕ) : Type 0 where
  pub hops_kept : (hop : Hop) → Contains old_hops hop → Contains hops hop
  pub lists_kept : (list : ℕ) → Contains old_lists list → Contains lists list
  pub walked : (list : ℕ) → Contains lists list → Contains old_lists list ⊎ IsWalked site class which relay hops lists list

-- By a hop that is new this occurrence of the first list leads on.
abbrev pub AddsLeads : Site → Class → Executed → ℕ → ℕ → ℕ → List Hop → List Hop → Type 0
AddsLeads site class which relay first number old new =
    (hop : Hop) → Contains new hop → Contains old hop ⊎ ((hop.number ≡ number) × Leads site class which relay first number hop.to)

-- a list that is new is one that posts of this list lead to
abbrev pub AddsPosted : Site → Class → Executed → ℕ → ℕ → List ℕ → List ℕ → Type 0
AddsPosted site class which relay list old new =
    (to : ℕ) → Contains new to → Contains old to ⊎ LeadsByPosts site class which relay list to

-- or this list
abbrev pub AddsLists : Site → Class → Executed → ℕ → ℕ → List ℕ → List ℕ → Type 0
AddsLists site class which relay list old new =
    (to : ℕ) → Contains new to → Contains old to ⊎ ((to ≡ list) ⊎ LeadsByPosts site class which relay list to)
