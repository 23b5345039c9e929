-- The site that a site file describes with the files that it names, and what is told where there is none (this profile's own).
use Rattle.std.specs.Prelude.{◌≡◌, ℕ, ◌⊎◌, List, [], ◌∷◌, Option, Some, codes}
use Rattle.sy_site.specs.declared.fault.SiteFault.{SiteFault}
use Rattle.sy_report.specs.HaltTexts.{site_report}
use Rattle.sy_report.specs.Reports.{said}
use Rattle.sy_places.specs.SiteFiles.{IsSiteFault}

-- the bytes of each of these files are known by its name
abbrev pub HaveBytes : (List ℕ → Option (List ℕ)) → List (List ℕ) → Type 0
HaveBytes bytes_of [] = Unit {0}
HaveBytes bytes_of (name ∷ names) = ((bytes : List ℕ) × (bytes_of name ≡ Some bytes)) × HaveBytes bytes_of names

-- There is no answer: the site file has a fault, memory ran out, or a file can't be read. That is told.
abbrev pub HasNoAnswer : (List ℕ → Option (List ℕ)) → List ℕ → ℕ → (List ℕ → Type 0) → Type 0
HasNoAnswer bytes_of text status IsReported =
    ((status ≡ 2) × (fault : SiteFault) × IsSiteFault bytes_of text fault × IsReported (site_report fault))
    ⊎ ((status ≡ 3) × IsReported (said (codes "no memory")))
    ⊎ ((status ≡ 4) × IsReported (said (codes "read failed")))
