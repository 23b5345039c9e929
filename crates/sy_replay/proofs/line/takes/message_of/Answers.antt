use Rattle.std.proofs.Common.{sym, ◌∙◌}
use Rattle.sy_replay.proofs.line.takes.message_of.Goals as goal

pub returns-clause-none : goal.returns-clause-none
returns-clause-none c e m is same = c.in-Err.ensures.only m (same ∙ sym c.in-Ok.ensures.items) is
