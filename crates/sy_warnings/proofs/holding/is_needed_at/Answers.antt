use Rattle.sy_warnings.specs.declared.following.Following.TheVariants as following
use Rattle.sy_warnings.proofs.Execution.{no_so, none_so, some_so, yes_so}
use Rattle.sy_warnings.proofs.holding.is_needed_at.Goals as goal

pub returns-in-Some : goal.returns-in-Some
returns-in-Some c = yes_so (
  c.in-Some.field-0,
  some_so c.args.site.now following.Firm c.args.at c.args.number c.executed.result c.in-Some.field-0
      c.executed.ensures c.in-Some.is,
)

pub returns-in-None : goal.returns-in-None
returns-in-None c = no_so (λ it. none_so c.args.site.now following.Firm c.args.at c.args.number c.executed.result c.executed.ensures c.in-None.is
    it.0 it.1)
