use Rattle.sy_warnings.specs.declared.following.Following.TheVariants as following
use Rattle.std.proofs.Common.{subst}
use Rattle.sy_warnings.specs.internal.Following.{IsDone}
use Rattle.sy_warnings.proofs.Execution.{no_so, yes_so}
use Rattle.sy_warnings.proofs.bottleneck.may_need.Goals as goal

pub returns-in-Some : goal.returns-in-Some
returns-in-Some c = yes_so (
  c.in-Some.field-0,
  subst (IsDone c.args.site.now c.args.class following.Firm c.args.at c.args.number) c.in-Some.is c.executed_at.ensures,
)

pub returns-in-None : goal.returns-in-None
returns-in-None c = no_so (λ it.
    subst (IsDone c.args.site.now c.args.class following.Firm c.args.at c.args.number) c.in-None.is c.executed_at.ensures it.0 it.1)
