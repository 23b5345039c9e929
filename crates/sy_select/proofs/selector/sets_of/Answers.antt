use Rattle.std.proofs.lemmas.Result.{err_from_is_err_and}
use Rattle.sy_select.proofs.PartLaws.{shorter_behind}
use Rattle.sy_select.proofs.SelectorLaws.{part_fault, parts_done, parts_more, parts_start_empty}
use Rattle.sy_select.proofs.selector.sets_of.Goals as goal

pub parts-init : goal.parts-init
parts-init c = parts_start_empty c.args.text.now c.empty-sets.result.0 (c.empty-sets.ensures tt)

pub returns-in_err-part-clause-err : goal.returns-in_err-part-clause-err
returns-in_err-part-clause-err c =
    let p = err_from_is_err_and c.from_residual.result c.from_residual.ensures.1 in
    rw (p.1, p.2) (part_fault c.args.text.now c.parts.rest.now c.first_part.result.0.now _ _ _ c.parts.invariant c.first_part.ensures.front c.in_err-part.ensures.err)

pub parts-smaller : goal.parts-smaller
parts-smaller c = shorter_behind 59 c.parts.rest.now c.in-Some.parts.now (rw c.in-Some.is at c.first_part.ensures.behind)

pub parts-preserved : goal.parts-preserved
parts-preserved c = parts_more c.args.text.now c.parts.rest.now c.first_part.result.0.now c.in-Some.parts.now _ _ _ _ _ c.parts.invariant c.in_ok-part.ensures.ok c.first_part.ensures.front (rw c.in-Some.is at c.first_part.ensures.behind) (record { size = c.apply.ensures.size; small = c.apply.ensures.small; pairs = c.apply.ensures.pairs })

pub returns-in-None-clause-ok : goal.returns-in-None-clause-ok
returns-in-None-clause-ok c = (parts_done c.args.text.now c.parts.rest.now c.first_part.result.0.now _ _ _ _ _ c.parts.invariant c.in_ok-part.ensures.ok c.first_part.ensures.front (rw c.in-None.is at c.first_part.ensures.behind) (record { size = c.apply.ensures.size; small = c.apply.ensures.small; pairs = c.apply.ensures.pairs })).0

pub returns-in-None-clause-right : goal.returns-in-None-clause-right
returns-in-None-clause-right c = (parts_done c.args.text.now c.parts.rest.now c.first_part.result.0.now _ _ _ _ _ c.parts.invariant c.in_ok-part.ensures.ok c.first_part.ensures.front (rw c.in-None.is at c.first_part.ensures.behind) (record { size = c.apply.ensures.size; small = c.apply.ensures.small; pairs = c.apply.ensures.pairs })).1
