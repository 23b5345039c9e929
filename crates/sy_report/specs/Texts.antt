-- Parts of the lines that commands over a site print.
use Rattle.std.specs.Prelude.{ℕ, List, ◌++◌, codes}
use Rattle.std.specs.Fmt.{decimal}
use Rattle.sy_wire.specs.declared.class.Class.{Class}
use Rattle.sy_select.specs.Names.{facility_text, severity_text}
use Rattle.sy_site.specs.Sites.{Site}
use Rattle.sy_site.specs.declared.site.SiteInput.{SiteInput}
use Rattle.sy_site.specs.Names.{name_of, port_of}
use Rattle.sy_report.specs.Printed.{printed}

-- FACILITY.SEVERITY, each by its first name
abbrev pub class_text : Class → List ℕ
class_text class = facility_text class.facility ++ codes "." ++ severity_text class.severity

-- RELAY PORT
abbrev pub input_text : Site → SiteInput → List ℕ
input_text site input = printed (name_of site input.relay) ++ codes " " ++ decimal (port_of site input)
