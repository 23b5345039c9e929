use Rattle.std.proofs.Common.{ℕ, List, subst}
use Rattle.std.specs.Prelude.{Bool, Some}
use Rattle.sy_report.specs.Reports.{SinkState}
use Rattle.sy_commands.specs.Optioned.{HaltEnds}
use Rattle.sy_commands.proofs.Replayed.{document_ends, document_fails, may_finish, may_halt, whole_document_ends}
use Rattle.sy_commands.proofs.replay.replay_as_document.Goals as goal

abbrev shown : List ℕ → Bool → ℕ → SinkState
shown text flushed faults = record { contents = Some text; is_flushed = flushed; faults = faults }

pub returns-in-Ok-clause-ends : goal.returns-in-Ok-clause-ends
returns-in-Ok-clause-ends g c = λ text events known read.
    whole_document_ends (g.F.Files.bytes_of c.args.files.now) text events c.args.out.now.output.faults c.print_document.new.out.output.faults
    c.print_document.result
    (may_finish (g.F.Files.bytes_of c.args.files.now) text events
    (shown c.new-lines.result.text.items c.new-lines.result.is_flushed c.new-lines.result.faults)
    (shown c.replay_on-replayed.new.writer.text.items c.replay_on-replayed.new.writer.is_flushed c.replay_on-replayed.new.writer.faults) (c.in-Ok.ensures.done text events known read) c.in-Ok.ensures.flushed)
    c.print_document.ensures.ends

pub returns-clause-ends : goal.returns-clause-ends
returns-clause-ends g c = λ text events known read.
    let before = c.args.out.now.output.faults in
    let after = c.stop_with_document.new.out.output.faults in
    document_ends (g.F.Files.bytes_of c.args.files.now) text events c.in-Err.halt before after c.stop_with_document.result
    (may_halt (g.F.Files.bytes_of c.args.files.now) text events
    (shown c.new-lines.result.text.items c.new-lines.result.is_flushed c.new-lines.result.faults)
    (shown c.replay_on-replayed.new.writer.text.items c.replay_on-replayed.new.writer.is_flushed c.replay_on-replayed.new.writer.faults) c.in-Err.halt (c.in-Err.ensures.halted text events known read))
    (subst (λ h. HaltEnds h c.stop_with_document.result before after) c.in_memory-halt.ensures c.stop_with_document.ensures.ends)

pub returns-clause-fails : goal.returns-clause-fails
returns-clause-fails g c = λ text events known read.
    let before = c.args.out.now.output.faults in
    let after = c.stop_with_document.new.out.output.faults in
    document_fails _ c.in-Err.halt c.stop_with_document.result before after (λ is. c.in-Err.ensures.unread is text events known read)
    (subst (λ h. HaltEnds h c.stop_with_document.result before after) c.in_memory-halt.ensures c.stop_with_document.ensures.ends)
