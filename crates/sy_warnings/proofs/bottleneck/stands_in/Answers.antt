use Rattle.sy_warnings.specs.declared.following.Following.TheVariants as following
use Rattle.sy_warnings.specs.Following.{Comes}
use Rattle.sy_warnings.proofs.Execution.{no_so, refuted}
use Rattle.sy_warnings.proofs.bottleneck.stands_in.Goals as goal

pub returns-then-not-comes : goal.returns-then-not-comes
returns-then-not-comes c = no_so (λ it. refuted c.comes.result (Comes c.args.site.now c.args.lists.now.class following.Firm c.args.at) c.comes.ensures
    c.if-not-comes.true it.comes)

pub returns : goal.returns
returns c = (
  λ yes. record { comes = c.comes.ensures.0 c.if-not-comes.false; before = c.stands_before.ensures.0 yes },
  λ it. c.stands_before.ensures.1 it.before,
)
