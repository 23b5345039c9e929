-- All that is found in a site, in groups: the classes of which the same kind is found at the same input.
use Rattle.std.specs.Prelude.{◌≡◌, ℕ, true, ◌⊎◌, AllPairs, Contains, List, map}
use Rattle.sy_wire.specs.declared.class.Class.{Class}
use Rattle.sy_board.specs.relay.Spares.{Scope}
use Rattle.sy_site.specs.declared.site.SiteAction.{SiteAction}
use Rattle.sy_site.specs.declared.site.SiteInput.{SiteInput}
use Rattle.sy_site.specs.Sites.{Site, archives, is_protected}
use Rattle.sy_site.specs.machine.Findings.{HoldsAt, IsFinding, WayRow}
use Rattle.sy_site.specs.machine.Reach.{LeadsTo, Reach}
use Rattle.sy_site.specs.machine.Soundness.{AreRanks}
use Rattle.sy_site.specs.declared.finding.Kind.{Kind}
use Rattle.sy_site.specs.declared.finding.Kind.TheVariants as kind
use Rattle.sy_checker.specs.declared.kinds.groups.Group.{Group}
use Rattle.sy_site.specs.Finding.{kind_of}

-- ---- groups

-- what is found, and where
abbrev pub subject : Group → SiteInput × Kind
subject group = (group.input, group.kind)

-- The group of the kind at the input names the class.
pub record Names (groups : List Group) (class : Class) (input : SiteInput) (kind : Kind) : Type 0 where
  pub group : Group
  pub there : Contains groups group
  pub is_of : subject group ≡ (input, kind)
  pub named : Contains group.classes.items class

-- No two are of the same kind at the same input, and each names a class.
pub record AreGroups (groups : List Group) : Type 0 where
  pub apart : AllPairs (λ a b. a ≡ b → ⊥) (map subject groups)
  pub filled : (group : Group) → Contains groups group → (class : Class) × Contains group.classes.items class

-- ---- what is found

-- The kind is found at the input for the class: some way shows it.
abbrev pub IsThere : Site → Class → SiteInput → Kind → Type 0
IsThere site class input k = (way : List WayRow) × IsFinding site class way input (kind_of k)

abbrev pub HasRanks : Site → Class → Type 0
HasRanks site class = (rank : ℕ → ℕ) × AreRanks site class rank

-- Nothing of the class is left out: each of the kinds 1 to 7 and 10 that holds at an input that it reaches without spare occurrences, each entry with each named
-- archive that it doesn't lead to; and a loop, or there are ranks, so that there is none.
pub record IsReportedOf (site : Site) (class : Class) (groups : List Group) : Type 0 where
  pub kinds : (input : SiteInput) → Reach site class Scope.Firm input → (k : Kind) → HoldsAt site class input (kind_of k) → Names groups class input k
  pub unmet : (entry : SiteInput) → Contains site.entries entry → (archive : SiteAction) → Contains (archives site class) archive
      → (LeadsTo site class archive entry → ⊥) → Names groups class entry (kind.Unmet archive)
  pub ranked : HasRanks site class ⊎ ((input : SiteInput) × Names groups class input kind.Loop)

-- All that is found of these classes: what a group says is true of each class that it names, and nothing of one of these is left out.
pub record IsSurveyOf (site : Site) (Asked : Class → Type 0) (groups : List Group) : Type 0 where
  pub only : (class : Class) (input : SiteInput) (k : Kind) → Names groups class input k → IsThere site class input k
  pub all : (class : Class) → Asked class → IsReportedOf site class groups
  pub are_groups : AreGroups groups

-- all that is found in a site: of its protected classes
abbrev pub IsSurvey : Site → List Group → Type 0
IsSurvey site groups = IsSurveyOf site (λ class. is_protected site class ≡ true) groups
