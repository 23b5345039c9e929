use Rattle.std.proofs.lemmas.Result.{err_from_is_err_and}
use Rattle.sy_report.proofs.Lines.{torn_nowhere}
use Rattle.sy_report.proofs.outcome.report.send_texts.Goals as goal

pub returns-in_err-flush-clause-torn : goal.returns-in_err-flush-clause-torn
returns-in_err-flush-clause-torn g c =
    let p = err_from_is_err_and c.from_residual-in_err-flush.result c.from_residual-in_err-flush.ensures.1 in
    rw p.1 (torn_nowhere _ _ _ _ c.in_ok-write_texts.ensures.ok c.in_err-flush.ensures.bytes)
