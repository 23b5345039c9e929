use Rattle.sy_replay.proofs.LineLaws.{skipped}
use Rattle.sy_replay.proofs.line.laws.skipped_lines_stand_for_nothing.Goals as goal

pub returns : goal.returns
returns c = skipped
