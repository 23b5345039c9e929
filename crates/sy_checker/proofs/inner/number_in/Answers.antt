use Rattle.std.proofs.Common.{◌∙◌, ap, eq-eqb, get_or, sym}
use Rattle.std.proofs.lemmas.List.{drop_all}
use Rattle.sy_checker.specs.internal.Inner.{number_in}
use Rattle.sy_checker.proofs.Numbering.{no_test, number_here, number_next, numbered}
use Rattle.sy_checker.proofs.inner.number_in.Goals as goal

pub loop-own-preserved : goal.loop-own-preserved
loop-own-preserved c =
    c.loop-own.invariant
    ∙ number_next c.args.lists.now c.loop-own.own-index c.args.list (numbered 0 0) c.loop-own-test.true
    (no_test (get_or c.args.lists.now c.loop-own.own-index (numbered 0 0)).list c.args.list c.if-own-list.false)

pub returns-then-own-list : goal.returns-then-own-list
returns-then-own-list c =
    sym (c.loop-own.invariant
    ∙ number_here c.args.lists.now c.loop-own.own-index c.args.list (numbered 0 0) c.loop-own-test.true
    (eq-eqb (get_or c.args.lists.now c.loop-own.own-index (numbered 0 0)).list c.args.list c.if-own-list.true))

pub returns : goal.returns
returns c =
    sym (c.loop-own.invariant ∙ ap (λ l. number_in l c.args.list) (drop_all c.loop-own.own-index c.args.lists.now c.loop-own-test.false))
