use Rattle.sy_rules.specs.declared.lists.occurrence.Occurrence.TheVariants as occurrence
use Rattle.sy_warnings.specs.declared.following.Following.TheVariants as following
use Rattle.sy_warnings.specs.Holding.{SharesQueue}
use Rattle.sy_warnings.specs.internal.Holding.{RunsIn}
use Rattle.sy_warnings.proofs.Execution.{no_so, refuted, yes_so}
use Rattle.sy_warnings.proofs.holding.shares_in.Goals as goal

pub returns-then-not-runs_in : goal.returns-then-not-runs_in
returns-then-not-runs_in c = no_so (λ it. refuted c.runs_in.result
    (RunsIn c.args.site.now following.Every (record { relay = c.args.relay; list = c.args.list }) c.args.action) c.runs_in.ensures c.if-not-runs_in.true it.runs)

pub returns : goal.returns
returns c = (
  λ yes. record { runs = c.runs_in.ensures.0 c.if-not-runs_in.false; shares = c.shares.ensures.0 yes },
  λ it. c.shares.ensures.1 it.shares,
)
