use Rattle.std.proofs.Common.{sym}
use Rattle.std.proofs.lemmas.Result.{err_from_is_err_and}
use Rattle.sy_select.proofs.ExprLaws.{none_at}
use Rattle.sy_select.proofs.read_expr.selected.Goals as goal

pub returns-in_err-selector-clause-err : goal.returns-in_err-selector-clause-err
returns-in_err-selector-clause-err c =
    let p = err_from_is_err_and c.from_residual.result c.from_residual.ensures.1 in
    rw (p.1, p.2, sym c.as_slice.ensures) c.in_err-selector.ensures.refused

pub returns-clause-right : goal.returns-clause-right
returns-clause-right c =
    let set = c.in_ok-selector.ensures.found in
    rw (sym c.as_slice.ensures) (none_at c.args.text.now.span c.as_slice.result.now set.parts set.is_selector)
