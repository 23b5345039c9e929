use Rattle.std.proofs.lemmas.Result.{err_from_is_err_and}
use Rattle.sy_report.specs.LineTexts.{line_text}
use Rattle.sy_report.proofs.Lines.{torn_text}
use Rattle.sy_report.proofs.writing.line.write_line.Goals as goal

pub returns-in_err-write_text-clause-torn : goal.returns-in_err-write_text-clause-torn
returns-in_err-write_text-clause-torn g c =
    let p = err_from_is_err_and c.from_residual.result c.from_residual.ensures.1 in
    rw p.1 (torn_text _ _ _ line_text c.args.texts.now c.loop-text.text-index _ c.loop-text-test.true c.loop-text.invariant.wrote
    c.in_err-write_text.ensures.torn)
