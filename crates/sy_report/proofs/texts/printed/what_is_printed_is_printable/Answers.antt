use Rattle.sy_report.proofs.PrintedNames.{is_printable}
use Rattle.sy_report.proofs.texts.printed.what_is_printed_is_printable.Goals as goal

pub returns : goal.returns
returns c = is_printable
