use Rattle.sy_commands.proofs.Replayed.{may_end_so}
use Rattle.sy_commands.specs.Reports.{HasReportedBy}
use Rattle.sy_commands.specs.Words.{is_any}
use Rattle.sy_commands.proofs.replay.replay.Goals as goal

pub returns-else-options-clause-ends : goal.returns-else-options-clause-ends
returns-else-options-clause-ends g c = λ text events known read.
    may_end_so (g.F.Files.bytes_of c.args.files.now) text events c.args.out.now.output c.replay_lines.new.out.output c.replay_lines.result
    (HasReportedBy (is_any c.args.options) c.args.out.now c.replay_lines.new.out) (c.replay_lines.ensures.says text events known read)
