use Rattle.sy_report.proofs.PrintedNames.{unchanged}
use Rattle.sy_report.proofs.texts.printed.what_is_printable_is_printed_as_it_is.Goals as goal

pub returns : goal.returns
returns c = unchanged
