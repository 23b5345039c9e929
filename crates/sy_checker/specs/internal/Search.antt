-- The ways to inputs that were found.
use Rattle.std.specs.Prelude.{[], ◌≡◌, Contains, List, ◌∷◌}
use Rattle.sy_wire.specs.declared.class.Class.{Class}
use Rattle.sy_site.specs.declared.site.SiteInput.{SiteInput}
use Rattle.sy_site.specs.Sites.{Site}
use Rattle.sy_flows.specs.declared.flows.executed.Executed.{Executed}
use Rattle.sy_site.specs.declared.finding.WayRow.{WayRow}
use Rattle.sy_flows.specs.Search.{IsNumberTo}

-- From an input each row's occurrence leads to the next row's input, and the last row's to the end.
abbrev pub IsLedFrom : Site → Class → Executed → SiteInput → List WayRow → SiteInput → Type 0
IsLedFrom site class which from [] end = from ≡ end
IsLedFrom site class which from (row ∷ way) end =
    (row.input ≡ from) × (to : SiteInput) × IsNumberTo site class which from to row.number × IsLedFrom site class which to way end

-- from one of those that the search starts from
pub record IsLed (site : Site) (class : Class) (which : Executed) (start : List SiteInput) (way : List WayRow) (end : SiteInput) : Type 0 where
  pub from : SiteInput
  pub starts : Contains start from
  pub follows : IsLedFrom site class which from way end
