-- A file of a relay as it was read, and why what was read describes no site.
use Rattle.std.specs.Prelude.{◌≡◌, ℕ, List, string_bytes}
use Rattle.sy_site.specs.texts.Describes.{File}
use Rattle.sy_site.specs.declared.fault.SiteFault.{SiteFault}
use Rattle.sy_site.specs.declared.fault.SiteFault.TheVariants as site_fault
use Rattle.sy_report.specs.declared.outcome.halt.Halt.{Halt}
use Rattle.sy_report.specs.declared.outcome.halt.Halt.TheVariants as halt
use Rattle.sy_host_parameters.specs.HostParameters.{machine_or}
use Rattle.sy_places.specs.SiteFiles.{IsFaultWith}
use Rattle.sy_places.specs.declared.site_file.texts.RelayText.{RelayText}

abbrev pub file_of : RelayText → File
file_of f = record { name = string_bytes f.name; bytes = f.text.items }

-- the file that its plan is read from
abbrev pub machine_file_of : RelayText → File
machine_file_of f = record { name = string_bytes f.name; bytes = machine_or f.text.items f.machine }

-- the site file has this fault with these files that plans are read from, or memory ran out
abbrev pub HasSiteHalt : List ℕ → List File → Halt → Type 0
HasSiteHalt text files (halt.Site fault) = (fault ≡ site_fault.NoMemory → ⊥) × IsFaultWith text files fault
HasSiteHalt text files halt.NoMemory = Unit {0}
HasSiteHalt text files _ = ⊥

-- a command stops so for a fault of a site
abbrev pub IsHaltOf : SiteFault → Halt → Type 0
IsHaltOf fault (halt.Site it) = (it ≡ fault) × (fault ≡ site_fault.NoMemory → ⊥)
IsHaltOf fault halt.NoMemory = fault ≡ site_fault.NoMemory
IsHaltOf fault _ = ⊥
