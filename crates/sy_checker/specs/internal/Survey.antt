-- What the parts of a survey say.
use Rattle.std.specs.Prelude.{◌≡◌, ℕ, ◌⊎◌, Contains, List, Some, slice_get}
use Rattle.sy_wire.specs.declared.class.Class.{Class}
use Rattle.sy_site.specs.declared.site.SiteAction.{SiteAction}
use Rattle.sy_site.specs.declared.site.SiteInput.{SiteInput}
use Rattle.sy_site.specs.Sites.{Site}
use Rattle.sy_site.specs.machine.Findings.{HoldsAt}
use Rattle.sy_site.specs.machine.Reach.{LeadsTo}
use Rattle.sy_site.specs.declared.finding.Kind.{Kind}
use Rattle.sy_site.specs.declared.finding.Kind.TheVariants as kind
use Rattle.sy_checker.specs.declared.kinds.groups.Group.{Group}
use Rattle.sy_site.specs.Finding.{kind_of}
use Rattle.sy_checker.specs.Survey.{AreGroups, IsThere, Names, subject}

-- the group at this place is of this kind at this input
pub record IsAt (groups : List Group) (place : ℕ) (input : SiteInput) (k : Kind) : Type 0 where
  pub group : Group
  pub stands : slice_get groups place ≡ Some group
  pub is_of : subject group ≡ (input, k)

-- the kind at the input is put to the class
pub record Pushes (class : Class) (input : SiteInput) (k : Kind) (old new : List Group) : Type 0 where
  pub kept : (c : Class) (i : SiteInput) (j : Kind) → Names old c i j → Names new c i j
  pub pushed : Names new class input k
  pub only : (c : Class) (i : SiteInput) (j : Kind) → Names new c i j → Names old c i j ⊎ ((c ≡ class) × (i ≡ input) × (j ≡ k))
  pub groups : AreGroups old → AreGroups new

-- All of this is put to a class, and nothing that isn't true.
pub record Reports (site : Site) (class : Class) (P : SiteInput → Kind → Type 0) (old new : List Group) : Type 0 where
  pub kept : (c : Class) (i : SiteInput) (j : Kind) → Names old c i j → Names new c i j
  pub all : (i : SiteInput) (j : Kind) → P i j → Names new class i j
  pub only : (c : Class) (i : SiteInput) (j : Kind) → Names new c i j → Names old c i j ⊎ IsThere site c i j
  pub groups : AreGroups old → AreGroups new

-- one of a list
abbrev pub Among : {A : Type 0} → List A → (A → Type 0) → Type 0
Among {A = A} xs P = (x : A) × Contains xs x × P x

-- this kind, where it holds at the input
abbrev pub IsHeld : Site → Class → SiteInput → Kind → SiteInput → Kind → Type 0
IsHeld site class input k i j = (i ≡ input) × (j ≡ k) × HoldsAt site class input (kind_of k)

-- each of the kinds 1 to 7 that does
abbrev pub AreHeld : Site → Class → SiteInput → SiteInput → Kind → Type 0
AreHeld site class input i j = (i ≡ input) × (j ≡ kind.InnerLoop → ⊥) × HoldsAt site class input (kind_of j)

-- that the entry doesn't lead to the archive
abbrev pub IsUnmetBy : Site → Class → SiteInput → SiteAction → SiteInput → Kind → Type 0
IsUnmetBy site class entry archive i j = (i ≡ entry) × (j ≡ kind.Unmet archive) × (LeadsTo site class archive entry → ⊥)

-- nothing
abbrev pub IsNothing : SiteInput → Kind → Type 0
IsNothing input k = ⊥
