use Rattle.std.proofs.Common.{◌≡◌, List, [], ◌∷◌, refl}
use Rattle.std.specs.List.{Contains}
use Rattle.sy_site.specs.Sites.{Site}
use Rattle.sy_site.specs.machine.Findings.{WayRow, first_is_entry}
use Rattle.sy_site.proofs.machine.findings_begin_at_entries.Goals as goal

first_of : (site : Site) (way : List WayRow) → first_is_entry site way
    → (first : WayRow) × (later : List WayRow) × (way ≡ first ∷ later) × Contains site.entries first.input
first_of site [] none = absurd none
first_of site (first ∷ later) is = (first, later, refl, is)

pub returns-clause-loops : goal.returns-clause-loops
returns-clause-loops c site class way input finding = first_of site way finding.found.starts

pub returns-clause-unmet : goal.returns-clause-unmet
returns-clause-unmet c site class way input archive finding = (finding.found.0, finding.found.1.is_entry)
