use Rattle.sy_warnings.specs.internal.Holding.{MayRun}
use Rattle.sy_warnings.proofs.Execution.{no_so, refuted}
use Rattle.sy_warnings.proofs.bottleneck.stands_at.Goals as goal

pub returns-then-not-may_run : goal.returns-then-not-may_run
returns-then-not-may_run c = no_so (λ it. refuted c.may_run.result (MayRun c.args.site.now c.args.class c.args.at c.args.number c.args.action)
    c.may_run.ensures c.if-not-may_run.true it.runs)

pub returns : goal.returns
returns c = (
  λ yes. record { runs = c.may_run.ensures.0 c.if-not-may_run.false; needs = c.needs_behind.ensures.0 yes },
  λ it. c.needs_behind.ensures.1 it.needs,
)
