use Rattle.std.proofs.lemmas.Result.{err_from_is_err_and}
use Rattle.sy_select.proofs.PartLaws.{front_fault, part_reads}
use Rattle.sy_select.proofs.part.read_part.Goals as goal

pub returns-in_err-facilities-clause-err : goal.returns-in_err-facilities-clause-err
returns-in_err-facilities-clause-err c =
    let p = err_from_is_err_and c.from_residual.result c.from_residual.ensures.1 in
    rw (p.1, p.2) (front_fault c.args.whole.now c.args.text.now c.cut.result.0.now _ _ c.cut.ensures.front c.in_err-facilities.ensures.err)

pub returns-clause-ok : goal.returns-clause-ok
returns-clause-ok c = part_reads c.args.whole.now c.args.text.now c.cut.result.0.now c.in-Some.behind.now c.in_ok-facilities.facilities c.in_ok-level.level.takes c.in_ok-level.level.severities.0 c.cut.ensures.front (rw c.in-Some.is at c.cut.ensures.behind) c.in_ok-facilities.ensures.ok c.in_ok-level.ensures.ok
