use Rattle.std.proofs.Common.{subst, sym}
use Rattle.std.specs.Prelude.{Contains}
use Rattle.std.proofs.lemmas.List.Elements.{Contains-get_or}
use Rattle.sy_rules.specs.declared.lists.occurrence.Occurrence.{Occurrence}
use Rattle.sy_warnings.specs.declared.coming.ClassLists.{ClassLists}
use Rattle.sy_warnings.specs.internal.Holding.{Executes}
use Rattle.sy_warnings.proofs.Execution.{none_all, none_first, none_more, some_class}
use Rattle.sy_warnings.proofs.holding.executed.Goals as goal

pub loop-lists-init : goal.loop-lists-init
loop-lists-init c = none_first c.args.site.now c.args.by c.args.at c.args.number c.args.all.now

pub loop-lists-preserved : goal.loop-lists-preserved
loop-lists-preserved c =
    none_more c.args.site.now c.args.by c.args.at c.args.number c.args.all.now c.loop-lists.lists-index c.lists-item.result c.loop-lists-test.true
    c.loop-lists.invariant
    (subst (λ (l : ClassLists). (is : Occurrence) → Executes c.args.site.now l.class c.args.by c.args.at c.args.number is → ⊥) c.lists-item.is
    c.in-None.ensures)

pub returns-in-Some : goal.returns-in-Some
returns-in-Some c =
    some_class c.args.site.now c.args.by c.args.at c.args.number c.lists-item.result c.in-Some.is'
    (c.requires.all.each c.lists-item.result
    (subst (Contains c.args.all.now) (sym c.lists-item.is)
    (Contains-get_or c.args.all.now c.loop-lists.lists-index c.lists-item.result c.loop-lists-test.true)))
    c.in-Some.ensures

pub returns : goal.returns
returns c =
    none_all c.args.site.now c.args.by c.args.at c.args.number c.args.all.now c.requires.all c.loop-lists.lists-index c.loop-lists-test.false
    c.loop-lists.invariant
