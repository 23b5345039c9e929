-- What the searches of the checker answer.
use Rattle.std.specs.Prelude.{◌≡◌, ℕ, List, Option, Some, None, slice_get}
use Rattle.sy_wire.specs.declared.class.Class.{Class}
use Rattle.sy_board.specs.relay.Spares.{Scope}
use Rattle.sy_site.specs.declared.site.SiteInput.{SiteInput}
use Rattle.sy_site.specs.Sites.{Site}
use Rattle.sy_site.specs.machine.Findings.{HoldsAt}
use Rattle.sy_site.specs.machine.Reach.{Reach}
use Rattle.sy_site.specs.declared.finding.Finding.{Finding}
use Rattle.sy_site.specs.declared.finding.Kind.{Kind}
use Rattle.sy_site.specs.Finding.{IsTrueFinding, kind_of}
use Rattle.sy_fit.specs.Fit.{IsClean}
use Rattle.sy_fit.specs.internal.Risks.{IsRisky}

-- a kind that holds at the input; none where none of the kinds 5 to 7 does
abbrev pub IsRiskAt : Site → Class → SiteInput → Option Kind → Type 0
IsRiskAt site class input None = IsRisky site class input → ⊥
IsRiskAt site class input (Some kind) = HoldsAt site class input (kind_of kind)

-- none where none of the kinds 1 to 7 does
abbrev pub IsKindAt : Site → Class → SiteInput → Option Kind → Type 0
IsKindAt site class input None = IsClean site class input
IsKindAt site class input (Some kind) = HoldsAt site class input (kind_of kind)

-- the kind holds at the input that stands at this place
pub record IsUncleanAt (site : Site) (class : Class) (inputs : List SiteInput) (place : ℕ) (kind : Kind) : Type 0 where
  pub input : SiteInput
  pub stands : slice_get inputs place ≡ Some input
  pub holds : HoldsAt site class input (kind_of kind)

-- a true finding; none where each input is clean that is reached without spare occurrences
abbrev pub IsSearched : Site → Class → Option Finding → Type 0
IsSearched site class None = (input : SiteInput) → Reach site class Scope.Firm input → IsClean site class input
IsSearched site class (Some found) = IsTrueFinding site found
