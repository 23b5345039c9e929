-- What the functions say that look for paths to archives.
use Rattle.std.specs.Prelude.{[], ◌≡◌, ℕ, ◌<◌, Contains, List, ◌∷◌, Option, Some, None, slice_get}
use Rattle.sy_wire.specs.declared.class.Class.{Class}
use Rattle.sy_site.specs.declared.site.SiteAction.{SiteAction}
use Rattle.sy_site.specs.declared.site.SiteInput.{SiteInput}
use Rattle.sy_site.specs.Sites.{Site}
use Rattle.sy_site.specs.machine.Reach.{LeadsTo, list_of}
use Rattle.sy_cert.specs.Rows.{AreOccurrences}
use Rattle.sy_flows.specs.declared.lists.InnerList.{InnerList}
use Rattle.sy_fit.specs.Fit.{IsPath}
use Rattle.sy_flows.specs.Leads.{MustLead, MustWriteAt}

-- the archive must be written in the list at this place; in none, where there is none
abbrev pub IsWriting : Site → Class → SiteAction → List InnerList → Option ℕ → Type 0
IsWriting site class archive lists None = (x : InnerList) → Contains lists x → MustWriteAt site class archive x → ⊥
IsWriting site class archive lists (Some place) = (x : InnerList) × (slice_get lists place ≡ Some x) × MustWriteAt site class archive x

-- From a list each number's occurrence leads to the next list, and the last one's to the end.
abbrev pub IsWayBetween : Site → Class → InnerList → List ℕ → InnerList → Type 0
IsWayBetween site class from [] end = from ≡ end
IsWayBetween site class from (number ∷ later) end =
    (number < 64) × (to : InnerList) × MustLead site class from number to × IsWayBetween site class to later end

-- a path from the input to the archive, of numbers as a certificate has them; none where it doesn't lead there
abbrev pub IsLead : Site → Class → SiteAction → SiteInput → Option (List ℕ) → Type 0
IsLead site class archive input None = LeadsTo site class archive input → ⊥
IsLead site class archive input (Some path) = IsPath site class archive input.relay (list_of site input) path × AreOccurrences path
