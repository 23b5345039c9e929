use Rattle.sy_warnings.specs.Following.{Comes}
use Rattle.sy_warnings.proofs.Execution.{executed_is, refuted}
use Rattle.sy_warnings.proofs.holding.executed_by.Goals as goal

pub returns-then-comes : goal.returns-then-comes
returns-then-comes c =
    executed_is c.args.site.now c.args.lists.now.class c.args.by c.args.at c.args.number (c.comes.ensures.0 c.if-comes.true) c.executed_at.result
    c.executed_at.ensures

pub returns : goal.returns
returns c = λ is e.
    refuted c.comes.result (Comes c.args.site.now c.args.lists.now.class c.args.by c.args.at) c.comes.ensures c.if-comes.false e.comes
