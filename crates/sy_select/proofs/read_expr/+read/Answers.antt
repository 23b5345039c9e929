use Rattle.std.proofs.Common.{map, sym}
use Rattle.std.proofs.lemmas.Result.{err_from_is_err_and}
use Rattle.sy_select.specs.internal.Nodes.{formula}
use Rattle.sy_select.specs.Trees.{written}
use Rattle.sy_select.proofs.Chains.{all_means, all_same, formula_and, means_end, written_and}
use Rattle.sy_select.proofs.read_expr.+read.Goals as goal

pub nodes-returns-clause-ok : goal.nodes-returns-clause-ok
nodes-returns-clause-ok t c = means_end c.args.parts.now c.loop-part.part-index c.loop-part.nodes c.loop-part-test.false c.loop-part.invariant.1

pub node-returns-in_err-parts-in-And-clause-err : goal.node-returns-in_err-parts-in-And-clause-err
node-returns-in_err-parts-in-And-clause-err t c =
    let p = err_from_is_err_and c.from_residual-in_err-parts-in-And.result c.from_residual-in_err-parts-in-And.ensures.1 in
    rw (p.1, p.2) (rw (c.in-And.is, written_and, sym c.as_slice-in-And.ensures, all_same) c.in_err-parts-in-And.ensures.err)

pub node-returns-in_ok-parts-in-And-clause-ok : goal.node-returns-in_ok-parts-in-And-clause-ok
node-returns-in_ok-parts-in-And-clause-ok t c =
    let h = all_means (map written c.as_slice-in-And.result.now) (map formula c.in_ok-parts-in-And.parts) c.in_ok-parts-in-And.ensures.ok in
    rw (c.in-And.is, written_and, formula_and, sym c.as_slice-in-And.ensures) h

pub node-returns-in_ok-parts-in-And-clause-right : goal.node-returns-in_ok-parts-in-And-clause-right
node-returns-in_ok-parts-in-And-clause-right t c =
    rw (c.in-And.is, written_and, sym c.as_slice-in-And.ensures, all_same) c.in_ok-parts-in-And.ensures.right
