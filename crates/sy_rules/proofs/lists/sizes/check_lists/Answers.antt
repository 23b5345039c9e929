use Rattle.std.proofs.Common.{List, map, ap, sym, ◌∙◌, subst}
use Rattle.std.proofs.lemmas.Result.{err_from_is_err_and}
use Rattle.sy_rules.specs.declared.fault.PlanFault.{PlanFault}
use Rattle.sy_rules.specs.declared.lists.sizes.Size.{Size}
use Rattle.sy_rules.specs.Faults.{IsAnswered}
use Rattle.sy_rules.specs.internal.TableSizes.{faults_by, head}
use Rattle.sy_rules.proofs.lemmas.lists.SizeSums.{faults_are}
use Rattle.sy_rules.proofs.lists.sizes.check_lists.Goals as goal

pub returns-in_err-check_sizes-clause-err : goal.returns-in_err-check_sizes-clause-err
returns-in_err-check_sizes-clause-err c =
    let p = err_from_is_err_and c.from_residual.result c.from_residual.ensures.1 in
    let tables = map (λ table. table.items) c.args.tables.now in
    let heads = map head c.args.heads.now in
    rw (p.1, p.2) (λ tests.
    subst (λ (fs : List PlanFault). IsAnswered fs c.in_err-check_sizes.field-0.0)
    (ap (λ (s : List Size). faults_by s 0 heads) c.as_slice.ensures.value ∙ faults_are tables c.in-Ok.sizes.items c.in-Ok.ensures tests 0 heads)
    c.in_err-check_sizes.ensures.err)

pub returns-clause-ok : goal.returns-clause-ok
returns-clause-ok c = λ tests.
    let tables = map (λ table. table.items) c.args.tables.now in
    let heads = map head c.args.heads.now in
    sym (ap (λ (s : List Size). faults_by s 0 heads) c.as_slice.ensures.value ∙ faults_are tables c.in-Ok.sizes.items c.in-Ok.ensures tests 0 heads) ∙ c.in_ok-check_sizes.ensures.ok
