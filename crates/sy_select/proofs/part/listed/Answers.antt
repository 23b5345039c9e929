use Rattle.std.proofs.Common.{refl}
use Rattle.sy_select.proofs.PartLaws.{names_done, names_fault, names_more, names_start, shorter_behind}
use Rattle.sy_select.proofs.part.listed.Goals as goal

pub names-init : goal.names-init
names-init c = names_start c.args.whole.now c.args.text.now _ refl refl

pub returns-in_default-clause-err : goal.returns-in_default-clause-err
returns-in_default-clause-err c = names_fault c.args.whole.now c.args.text.now c.names.rest.now c.cut.result.0.now c.names.set _ _ c.names.invariant c.cut.ensures.front c.in_default.ensures.value c.no_name.ensures.code c.no_name.ensures.word

pub names-smaller : goal.names-smaller
names-smaller c = shorter_behind 44 c.names.rest.now c.in-Some-behind.names.now (rw c.in-Some-behind.is at c.cut.ensures.behind)

pub names-preserved : goal.names-preserved
names-preserved c =
    let e = c.from.ensures in
    names_more c.args.whole.now c.args.text.now c.names.rest.now c.cut.result.0.now c.in-Some-behind.names.now c.names.set c.from.result c.names.invariant (rw e c.in-Some.ensures.bound) c.cut.ensures.front (rw c.in-Some-behind.is at c.cut.ensures.behind) (rw e c.in-Some.ensures.value)

pub returns-in-None-clause-ok : goal.returns-in-None-clause-ok
returns-in-None-clause-ok c =
    let e = c.from.ensures in
    names_done c.args.whole.now c.args.text.now c.names.rest.now c.cut.result.0.now c.names.set c.from.result c.names.invariant (rw e c.in-Some.ensures.bound) c.cut.ensures.front (rw c.in-None.is at c.cut.ensures.behind) (rw e c.in-Some.ensures.value)
