use Rattle.std.proofs.Common.{rules}
use Rattle.sy_running.proofs.Guarding.{has_guard}
use Rattle.sy_running.proofs.prepare.guard_of.Goals as goal

pub returns-in-Ok-guard-clause-ok : goal.returns-in-Ok-guard-clause-ok
returns-in-Ok-guard-clause-ok c =
    has_guard c.args.site.now c.in-Ok.accepted c.args.relay c.in-Ok-guard.guard (search rules) (search rules) (search rules) (search rules)
    c.in-Ok-guard.ensures.may
