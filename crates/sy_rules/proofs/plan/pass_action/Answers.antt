use Rattle.std.proofs.Common.{rules}
use Rattle.sy_rules.proofs.lemmas.parameters.Defaults.{archive_retry, archive_interval}
use Rattle.sy_rules.proofs.plan.pass_action.Goals as goal

pub returns : goal.returns
returns c = rw (archive_retry, archive_interval, c.in_ok-name_by_number.ensures) (search rules)
