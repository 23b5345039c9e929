-- Why there is no site, as a command stops for it (this profile's own).
use Rattle.std.specs.Prelude.{◌≡◌, ℕ, List, Option}
use Rattle.std.specs.List.{Any}
use Rattle.sy_site.specs.declared.fault.SiteFault.TheVariants as site_fault
use Rattle.sy_report.specs.declared.outcome.halt.Halt.{Halt}
use Rattle.sy_report.specs.declared.outcome.halt.Halt.TheVariants as halt
use Rattle.sy_places.specs.SiteFiles.{IsSiteFault}

-- why there is no site
abbrev pub IsNoSite : (List ℕ → Option (List ℕ)) → List ℕ → Halt → Type 0
IsNoSite bytes_of text (halt.Site fault) = (fault ≡ site_fault.NoMemory → ⊥) × IsSiteFault bytes_of text fault
IsNoSite bytes_of text halt.NoMemory = Unit {0}
IsNoSite bytes_of text halt.ReadFailed = Unit {0}
IsNoSite bytes_of text _ = ⊥

-- what reading a site may stop for
abbrev pub IsReadHalt : Halt → Type 0
IsReadHalt (halt.Site fault) = Unit {0}
IsReadHalt halt.NoMemory = Unit {0}
IsReadHalt halt.ReadFailed = Unit {0}
IsReadHalt _ = ⊥

-- Why nothing is read: at a failed read one of these files may fail, and no write is made.
abbrev pub IsUnread : (List ℕ → Type 0) → List (List ℕ) → Halt → Type 0
IsUnread MayFail names halt.ReadFailed = Any MayFail names
IsUnread MayFail names halt.WriteFailed = ⊥
IsUnread MayFail names _ = Unit {0}
