use Rattle.sy_rules.proofs.lemmas.parts.QueueLaws.{queue_of_action, run_of_action}
use Rattle.sy_rules.proofs.laws.lists_of_actions.Goals as goal

pub returns-clause-queue : goal.returns-clause-queue
returns-clause-queue c = queue_of_action

pub returns-clause-run : goal.returns-clause-run
returns-clause-run c = run_of_action
