use Rattle.sy_unread.proofs.Skipped.{frames_go}
use Rattle.sy_unread.proofs.skipping.laws.frames_go.Goals as goal

pub returns : goal.returns
returns c = frames_go
