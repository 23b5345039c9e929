-- The exit status of a command over a site that stops early (this profile's own).
use Rattle.std.specs.Prelude.{ℕ}
use Rattle.sy_site.specs.declared.fault.SiteFault.TheVariants as site_fault
use Rattle.sy_report.specs.declared.outcome.halt.Halt.{Halt}
use Rattle.sy_report.specs.declared.outcome.halt.Halt.TheVariants as halt

-- the exit status
abbrev pub status_at : Halt → ℕ
status_at (halt.Site site_fault.NoMemory) = 3
status_at (halt.Site _) = 2
status_at (halt.Certificate fault) = 2
status_at (halt.Line line) = 2
status_at (halt.Illegal line) = 1
status_at (halt.TotalsFull line) = 1
status_at halt.NoMemory = 3
status_at halt.ReadFailed = 4
status_at halt.WriteFailed = 4
