use Rattle.sy_rules.proofs.lemmas.parameters.Defaults.{main_queue_is_clean}
use Rattle.sy_rules.proofs.items.borrowed.main_queue_params.Goals as goal

pub returns-clause-clean : goal.returns-clause-clean
returns-clause-clean c = main_queue_is_clean
