use Rattle.std.proofs.lemmas.Result.{err_from_is_err_and}
use Rattle.sy_select.specs.Trees.{tree_faults, written}
use Rattle.sy_select.proofs.ExprLaws.{for_memory, no_fault}
use Rattle.sy_select.proofs.expr.Expr.read.Goals as goal

pub returns-in_err-node-clause-only : goal.returns-in_err-node-clause-only
returns-in_err-node-clause-only c = λ x is.
    let p = err_from_is_err_and c.from_residual.result c.from_residual.ensures.1 in
    rw (p.1, p.2) (for_memory (tree_faults c.args.tree.now) _ (no_fault (written c.args.tree.now) x is) c.in_err-node.ensures.err)
