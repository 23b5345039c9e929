-- Each exit status of a command over a site.
use Rattle.std.proofs.Common.{◌≤◌, arith}
use Rattle.sy_site.specs.declared.fault.SiteFault.TheVariants as site_fault
use Rattle.sy_report.specs.declared.outcome.halt.Halt.{Halt}
use Rattle.sy_report.specs.declared.outcome.halt.Halt.TheVariants as halt
use Rattle.sy_report.specs.Halts.{status_at}

pub at_most_four : (why : Halt) → status_at why ≤ 4
at_most_four (halt.Site (site_fault.Line n)) = omega arith
at_most_four (halt.Site (site_fault.Duplicate n)) = omega arith
at_most_four (halt.Site (site_fault.NoFile n)) = omega arith
at_most_four (halt.Site (site_fault.NoSuchEntry n)) = omega arith
at_most_four (halt.Site (site_fault.NoSuchArchive n)) = omega arith
at_most_four (halt.Site (site_fault.NoSuchAction n)) = omega arith
at_most_four (halt.Site (site_fault.SpareArchive n)) = omega arith
at_most_four (halt.Site site_fault.NothingProtected) = omega arith
at_most_four (halt.Site (site_fault.Relay n name why)) = omega arith
at_most_four (halt.Site site_fault.NoMemory) = omega arith
at_most_four (halt.Certificate fault) = omega arith
at_most_four (halt.Line line) = omega arith
at_most_four (halt.Illegal line) = omega arith
at_most_four (halt.TotalsFull line) = omega arith
at_most_four halt.NoMemory = omega arith
at_most_four halt.ReadFailed = omega arith
at_most_four halt.WriteFailed = omega arith
