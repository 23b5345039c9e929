use Rattle.std.proofs.Common.{◌∷◌, refl}
use Rattle.sy_replay.specs.Lines.{IsUnread}
use Rattle.sy_replay.specs.declared.line.fault.EventFault.TheVariants as fault
use Rattle.sy_commands.specs.internal.Halts.{place}
use Rattle.sy_commands.proofs.Courses.{keeps_all, line_faulty, line_skipped, out_of_room}
use Rattle.sy_commands.proofs.replay.events.apply_line.Goals as goal

pub returns-in-Ok-None-clause-ok : goal.returns-in-Ok-None-clause-ok
returns-in-Ok-None-clause-ok g c = λ later.
    let from = place c.args.course.now (c.args.line.now ∷ later) (g.W.Sink.contents c.args.writer.now) (g.W.Sink.faults c.args.writer.now) in
    line_skipped c.args.site.now from _ c.args.line.now (rw c.in-Ok-None.field-0-is at c.in-Ok-None.ensures.ok) refl c.saturating_add-course.ensures refl refl (keeps_all _) refl

pub returns-in-Err-Line-clause-err : goal.returns-in-Err-Line-clause-err
returns-in-Err-Line-clause-err g c = λ later.
    let from = place c.args.course.now (c.args.line.now ∷ later) (g.W.Sink.contents c.args.writer.now) (g.W.Sink.faults c.args.writer.now) in
    let none : IsUnread c.args.site.now c.args.line.now fault.Line = rw c.in-Err-Line.field-0-is at c.in-Err-Line.ensures.err in
    line_faulty c.args.site.now from c.args.line.now later _ _ refl none.0 none.1 (keeps_all _) refl

pub returns-in-Err-NoMemory-clause-err : goal.returns-in-Err-NoMemory-clause-err
returns-in-Err-NoMemory-clause-err g c = λ later.
    let from = place c.args.course.now (c.args.line.now ∷ later) (g.W.Sink.contents c.args.writer.now) (g.W.Sink.faults c.args.writer.now) in
    out_of_room c.args.site.now from _ _ (keeps_all _) refl
