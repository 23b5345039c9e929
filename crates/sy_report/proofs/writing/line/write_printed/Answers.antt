use Rattle.std.proofs.Common.{◌∙◌, sym}
use Rattle.sy_report.proofs.PrintedNames.{plain_unchanged}
use Rattle.sy_report.proofs.writing.line.write_printed.Goals as goal

pub returns-then-is_plain-clause-ok : goal.returns-then-is_plain-clause-ok
returns-then-is_plain-clause-ok g c = rw (plain_unchanged c.args.name.now (sym c.is_plain.ensures ∙ c.if-is_plain.true)) c.write_all.ensures.ok

pub returns-then-is_plain-clause-torn : goal.returns-then-is_plain-clause-torn
returns-then-is_plain-clause-torn g c = rw (plain_unchanged c.args.name.now (sym c.is_plain.ensures ∙ c.if-is_plain.true)) c.write_all.ensures.torn
