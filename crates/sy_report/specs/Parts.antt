-- What the parts of a line are.
use Rattle.std.specs.Prelude.{ℕ, List, ◌++◌, codes}
use Rattle.std.specs.Fmt.{decimal}
use Rattle.sy_report.specs.Printed.{printed}
use Rattle.sy_report.specs.Texts.{class_text}
use Rattle.sy_report.specs.declared.texts.parts.Part.{Part}
use Rattle.sy_report.specs.declared.texts.parts.Part.TheVariants as part

abbrev pub part_text : Part → List ℕ
part_text (part.Text words) = words.now
part_text (part.Name name) = printed name.now
part_text (part.Number number) = decimal number
part_text (part.Sum sum) = decimal sum
part_text (part.Class class) = class_text class
part_text (part.Input relay port) = printed relay.now ++ codes " " ++ decimal port
