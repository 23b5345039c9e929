-- Which inputs messages of a class may come to, with spare occurrences and without, and which archives they must come to: what the plans say of a
-- class alone, without any state (this profile's own).
use Rattle.std.specs.Prelude.{◌≡◌, ℕ, false, Option, Some}
use Rattle.std.specs.List.{Contains}
use Rattle.sy_wire.specs.declared.class.Class.{Class}
use Rattle.sy_rules.specs.declared.lists.occurrence.Occurrence.{Occurrence}
use Rattle.sy_rules.specs.declared.lists.occurrence.Occurrence.TheVariants as occurrence
use Rattle.sy_rules.specs.Whole.{body_at}
use Rattle.sy_rules.specs.lists.Work.{Must}
use Rattle.sy_board.specs.relay.Plans as plans
use Rattle.sy_board.specs.relay.Plans.{input_at}
use Rattle.sy_board.specs.relay.Spares as spares
use Rattle.sy_board.specs.relay.Spares.{Scope}
use Rattle.sy_site.specs.Sites.{Site, SiteInput, SiteAction, does_spare, plan_at, spares_at, target}

-- the list that an input's messages execute
abbrev pub list_of : Site → SiteInput → ℕ
list_of site input = (input_at (plan_at site input.relay) input.input).list

-- an occurrence of a relay's list, by number
abbrev pub occurrence_at : Site → ℕ → ℕ → ℕ → Option Occurrence
occurrence_at site relay list number = plans.occurrence_at (plan_at site relay) list number

-- an occurrence of a relay's list that messages of the class may execute, and that is in the scope: every one, or those alone that aren't spare
abbrev pub MayDo : Site → Class → Scope → ℕ → ℕ → ℕ → Occurrence → Type 0
MayDo site class scope relay list number is = spares.MayDo (plan_at site relay) (spares_at site relay) class scope list number is

-- the lists of its relay that messages of the class may follow from an input on
abbrev pub Follows : Site → Class → Scope → SiteInput → ℕ → Type 0
Follows site class scope input list = spares.Follows (plan_at site input.relay) (spares_at site input.relay) class scope input.input list

-- one post after another, at least one, leads from a list of a relay to another
abbrev pub PostsOn : Site → Class → Scope → ℕ → ℕ → ℕ → Type 0
PostsOn site class scope relay from to = spares.PostsOn (plan_at site relay) (spares_at site relay) class scope from to

-- one that each message of the class executes, and that isn't spare
pub record MustDo (site : Site) (class : Class) (relay list number : ℕ) (is : Occurrence) : Type 0 where
  pub must : Must (body_at (plan_at site relay) list) class number
  pub found : occurrence_at site relay list number ≡ Some is
  pub firm : does_spare site relay is ≡ false

-- An occurrence of a list reaches an input where it is a forward to it, or a post to a list with an occurrence that reaches it. Each of these may be
-- executed, and is in the scope.
pub data Reaches (site : Site) (class : Class) (scope : Scope) (relay : ℕ) : (list number : ℕ) → SiteInput → Type 0 where
  forwards : {list : ℕ} {to : SiteInput} (number action : ℕ) → MayDo site class scope relay list number (occurrence.Run action)
      → target site (record { relay = relay; action = action }) ≡ Some to → Reaches site class scope relay list number to
  posts : {list : ℕ} {to : SiteInput} (number inner next : ℕ) → MayDo site class scope relay list number (occurrence.Post inner)
      → Reaches site class scope relay inner next to → Reaches site class scope relay list number to

-- The inputs that messages of the class reach: each entry, and what the occurrences of a reached input's list reach.
pub data Reach (site : Site) (class : Class) (scope : Scope) : SiteInput → Type 0 where
  entry : {input : SiteInput} → Contains site.entries input → Reach site class scope input
  onward : {from to : SiteInput} (number : ℕ) → Reach site class scope from → Reaches site class scope from.relay (list_of site from) number to
      → Reach site class scope to

-- A list of a relay leads to an archive where each message of the class runs the archive's action there, or a forward to an input whose list leads to
-- it, or a post to a list that leads to it. None of these is spare.
pub data ListLeadsTo (site : Site) (class : Class) (archive : SiteAction) : (relay list : ℕ) → Type 0 where
  writes : {relay list : ℕ} (number action : ℕ) → MustDo site class relay list number (occurrence.Run action)
      → record { relay = relay; action = action } ≡ archive → ListLeadsTo site class archive relay list
  leads_on : {relay list : ℕ} (number action : ℕ) (to : SiteInput) → MustDo site class relay list number (occurrence.Run action)
      → target site (record { relay = relay; action = action }) ≡ Some to → ListLeadsTo site class archive to.relay (list_of site to)
      → ListLeadsTo site class archive relay list
  posts_on : {relay list : ℕ} (number inner : ℕ) → MustDo site class relay list number (occurrence.Post inner)
      → ListLeadsTo site class archive relay inner → ListLeadsTo site class archive relay list

-- An input leads to an archive where its list does.
abbrev pub LeadsTo : Site → Class → SiteAction → SiteInput → Type 0
LeadsTo site class archive input = ListLeadsTo site class archive input.relay (list_of site input)
