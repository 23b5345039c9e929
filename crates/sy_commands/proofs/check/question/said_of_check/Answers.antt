use Rattle.sy_commands.proofs.Said.{explained_said}
use Rattle.sy_commands.proofs.check.question.said_of_check.Goals as goal

pub returns-in-true-false-clause-verdict : goal.returns-in-true-false-clause-verdict
returns-in-true-false-clause-verdict c = explained_said c.args.site.now c.say_explained.result c.say_explained.ensures.ok
