-- What is said of a site's texts that are checked.
use Rattle.std.specs.Prelude.{◌≡◌, ◌⊎◌, ℕ, List}
use Rattle.sy_site.specs.Sites.{Site}
use Rattle.sy_site.specs.declared.fault.SiteFault.TheVariants as site_fault
use Rattle.sy_site.specs.texts.Describes.{Describes, File}
use Rattle.sy_site.specs.texts.HasFault.{HasFault}
use Rattle.sy_fit.specs.Acceptance.{Acceptance, IsOf}
use Rattle.sy_site.specs.Finding.{IsTrueRefusal}
use Rattle.sy_checker.specs.declared.checking.CheckFault.{CheckFault}
use Rattle.sy_checker.specs.declared.checking.CheckFault.TheVariants as faults
use Rattle.sy_site.specs.declared.finding.Refusal.TheVariants as refusal

-- The texts describe a site, of which this is kept.
pub record IsAccepted (text : List ℕ) (files : List File) (accepted : Acceptance) : Type 0 where
  pub site : Site
  pub described : Describes text files site
  pub kept : IsOf site accepted

-- The texts have this fault, or describe a site in which this is found. Memory may always run out.
abbrev pub IsTrueFault : List ℕ → List File → CheckFault → Type 0
IsTrueFault text files (faults.Site why) = (why ≡ site_fault.NoMemory) ⊎ HasFault text files why
IsTrueFault text files (faults.Refused why) = (site : Site) × Describes text files site × IsTrueRefusal site why

-- memory ran out
abbrev pub IsNoMemory : CheckFault → Type 0
IsNoMemory (faults.Site why) = why ≡ site_fault.NoMemory
IsNoMemory (faults.Refused why) = why ≡ refusal.NoMemory
