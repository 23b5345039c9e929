use Rattle.std.proofs.Common.{◌∙◌, sym}
use Rattle.sy_report.proofs.PrintedNames.{plain_unchanged}
use Rattle.sy_report.proofs.texts.printed.append_printed.Goals as goal

pub returns-then-is_plain : goal.returns-then-is_plain
returns-then-is_plain c = rw (plain_unchanged c.args.name.now (sym c.is_plain.ensures ∙ c.if-is_plain.true)) c.append_plain.ensures
