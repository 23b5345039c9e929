-- Why there is no verdict on a certificate.
use Rattle.std.specs.Prelude.{ℕ, List, Option}
use Rattle.sy_cert.specs.Faults.{HasFault}
use Rattle.sy_report.specs.declared.outcome.halt.Halt.{Halt}
use Rattle.sy_report.specs.declared.outcome.halt.Halt.TheVariants as halt
use Rattle.sy_places.specs.Halts.{IsNoSite}
use Rattle.sy_commands.specs.Verdicts.{IsFaultyCertificate}

-- why a file holds no certificate
abbrev pub IsNoCertificate : List ℕ → Halt → Type 0
IsNoCertificate bytes (halt.Certificate fault) = HasFault bytes fault.code fault.line
IsNoCertificate bytes halt.NoMemory = Unit {0}
IsNoCertificate bytes halt.ReadFailed = Unit {0}
IsNoCertificate bytes _ = ⊥

-- why there is no verdict
abbrev pub HasNoVerdict : (List ℕ → Option (List ℕ)) → (site_text certificate : List ℕ) → Halt → Type 0
HasNoVerdict bytes_of site_text certificate (halt.Certificate fault) = IsFaultyCertificate bytes_of site_text certificate fault
HasNoVerdict bytes_of site_text certificate why = IsNoSite bytes_of site_text why
