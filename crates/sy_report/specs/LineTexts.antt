-- Lines that names of files stand in.
use Rattle.std.specs.Prelude.{ℕ, List, map}
use Rattle.sy_report.specs.Printed.{printed}
use Rattle.sy_report.specs.Reports.{joined}
use Rattle.sy_report.specs.declared.writing.line.LineText.{LineText}
use Rattle.sy_report.specs.declared.writing.line.LineText.TheVariants as text

-- what is written of a text of a line
abbrev pub line_text : LineText → List ℕ
line_text (text.Plain words) = words.now
line_text (text.Name name) = printed name.now

-- what is written of all
abbrev pub line_of : List LineText → List ℕ
line_of texts = joined (map line_text texts)
