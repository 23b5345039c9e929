use Rattle.sy_site.proofs.machine.SafeRun.{written_run}
use Rattle.sy_site.proofs.machine.messages_are_written_or_head_there.Goals as goal

pub returns : goal.returns
returns c = written_run
