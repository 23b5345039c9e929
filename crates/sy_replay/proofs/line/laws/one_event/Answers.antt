use Rattle.sy_replay.proofs.LineLaws.{one_event}
use Rattle.sy_replay.proofs.line.laws.one_event.Goals as goal

pub returns : goal.returns
returns c = one_event c.one_message.ensures
