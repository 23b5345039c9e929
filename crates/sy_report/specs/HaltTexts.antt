-- What is printed where a command over a site stops early (this profile's own).
use Rattle.std.specs.Prelude.{ℕ, ◌==◌, ◌||◌, Bool, nat_lt, List, [], ◌∷◌, Option, Some, None, codes, position, take}
use Rattle.std.specs.Fmt.{decimal}
use Rattle.sy_script.specs.Faults as script
use Rattle.sy_rules.specs.Faults as plan
use Rattle.sy_site.specs.declared.fault.RelayFault.{RelayFault}
use Rattle.sy_site.specs.declared.fault.RelayFault.TheVariants as why
use Rattle.sy_site.specs.declared.fault.SiteFault.{SiteFault}
use Rattle.sy_site.specs.declared.fault.SiteFault.TheVariants as site_fault
use Rattle.sy_site.specs.texts.Faults as site
use Rattle.sy_cert.specs.Faults as certificate
use Rattle.sy_report.specs.Printed.{printed}
use Rattle.sy_report.specs.Reports.{joined, line_feed, said}
use Rattle.sy_report.specs.declared.outcome.halt.Halt.{Halt}
use Rattle.sy_report.specs.declared.outcome.halt.Halt.TheVariants as halt

-- a fault of a line of the site file, or of the events file
abbrev pub in_line : List ℕ → ℕ → List ℕ
in_line words line = joined (codes "syc: " ∷ words ∷ codes " in line " ∷ decimal line ∷ (line_feed ∷ []) ∷ [])

-- a fault of a relay's script, at a line and column in digits
abbrev pub at_place : List ℕ → List ℕ → List ℕ → List ℕ → List ℕ
at_place words line column relay =
    joined (codes "syc: " ∷ words ∷ codes " at " ∷ line ∷ codes ":" ∷ column ∷ codes " of " ∷ printed relay ∷ (line_feed ∷ []) ∷ [])

-- a control character (%d0-31, %d127)
abbrev pub is_control : ℕ → Bool
is_control byte = nat_lt byte 32 || byte == 127

-- a word up to its first control character: what is printed is one line, whatever a string of the script has in it
abbrev pub first_line : List ℕ → List ℕ
first_line word = up_to (position is_control word) where
  up_to : Option ℕ → List ℕ
  up_to None = word
  up_to (Some size) = take size word

-- a fault of a relay's plan, with its word
abbrev pub with_word : List ℕ → List ℕ → List ℕ → List ℕ
with_word words relay word =
    joined (codes "syc: " ∷ words ∷ codes " of " ∷ printed relay ∷ codes ": " ∷ printed (first_line word)
    ∷ (line_feed ∷ []) ∷ [])

abbrev pub relay_report : List ℕ → RelayFault → List ℕ
relay_report relay (why.Script f) = at_place (script.words f.code) (decimal f.line) (decimal f.column) relay
relay_report relay (why.Plan f) = with_word (plan.words f.code) relay f.word

abbrev pub site_report : SiteFault → List ℕ
site_report (site_fault.Line n) = in_line (site.words (site_fault.Line n)) n
site_report (site_fault.Duplicate n) = in_line (site.words (site_fault.Duplicate n)) n
site_report (site_fault.NoFile n) = in_line (site.words (site_fault.NoFile n)) n
site_report (site_fault.NoSuchEntry n) = in_line (site.words (site_fault.NoSuchEntry n)) n
site_report (site_fault.NoSuchArchive n) = in_line (site.words (site_fault.NoSuchArchive n)) n
site_report site_fault.NothingProtected = in_line (site.words site_fault.NothingProtected) 1
site_report (site_fault.Relay n name why) = relay_report name why
site_report site_fault.NoMemory = said (codes "no memory")
site_report (site_fault.NoSuchAction n) = in_line (site.words (site_fault.NoSuchAction n)) n
site_report (site_fault.SpareArchive n) = in_line (site.words (site_fault.SpareArchive n)) n

abbrev pub halt_report : Halt → List ℕ
halt_report (halt.Site fault) = site_report fault
halt_report (halt.Certificate fault) = in_line (certificate.words_of fault.code) fault.line
halt_report (halt.Line line) = in_line (codes "51 Line") line
halt_report (halt.Illegal line) = in_line (codes "illegal event") line
halt_report (halt.TotalsFull line) = in_line (codes "86 TotalsFull") line
halt_report halt.NoMemory = said (codes "no memory")
halt_report halt.ReadFailed = said (codes "read failed")
halt_report halt.WriteFailed = said (codes "write failed")
