use Rattle.std.proofs.Common.{◌≡◌, ℕ, List, [], ◌∙◌, refl, subst, sym}
use Rattle.std.proofs.KnownBytes.{Appends-kept}
use Rattle.std.proofs.lemmas.Result.{err_from_is_err_and}
use Rattle.std.specs.Io.KnownBytes.{Appends}
use Rattle.sy_wire.specs.Streams.{Rose}
use Rattle.sy_replay.specs.States.{state_in}
use Rattle.sy_commands.specs.Replays.{end_line, lines_of}
use Rattle.sy_report.specs.Reports.{Torn}
use Rattle.sy_commands.specs.internal.Halts.{Comes, place}
use Rattle.sy_commands.specs.Halts.{Place, Stops}
use Rattle.sy_report.specs.declared.outcome.halt.Halt.TheVariants as halt
use Rattle.sy_commands.proofs.Courses.{end_fails, finishes_behind, finishes_now, keeps_all, out_of_room, stops_behind}
use Rattle.sy_commands.proofs.Cutting.{one_line}
use Rattle.sy_report.proofs.Lines.{torn_nowhere}
use Rattle.sy_commands.proofs.replay.events.finish.Goals as goal

pub returns-in_err-apply_line-clause-err : goal.returns-in_err-apply_line-clause-err
returns-in_err-apply_line-clause-err g c =
    let p = err_from_is_err_and c.from_residual.result c.from_residual.ensures.1 in
    let site = c.args.site.now in
    let from : List (List ℕ) → Place = λ ls. place c.args.course.now ls (g.W.Sink.contents c.args.writer.now) (g.W.Sink.faults c.args.writer.now) in
    let one = one_line c.args.last.now c.requires.open in
    let why = c.in_err-apply_line.field-0.0 in
    rw (p.1, p.2) (subst (λ ls. Stops site (from ls) why (g.W.Sink.contents c.apply_line.new.writer) (g.W.Sink.faults c.apply_line.new.writer)) (sym one)
    (c.in_err-apply_line.ensures.err []))

pub returns-in_default-clause-err : goal.returns-in_default-clause-err
returns-in_default-clause-err g c =
    let site = c.args.site.now in
    let from : List (List ℕ) → Place = λ ls. place c.args.course.now ls (g.W.Sink.contents c.args.writer.now) (g.W.Sink.faults c.args.writer.now) in
    let one = one_line c.args.last.now c.requires.open in
    let to = place c.apply_line.new.course [] (g.W.Sink.contents c.apply_line.new.writer) (g.W.Sink.faults c.apply_line.new.writer) in
    let came : Comes site (from (lines_of c.args.last.now)) to = subst (λ ls. Comes site (from ls) to) (sym one) (c.in_ok-apply_line.ensures.ok []) in
    stops_behind site (from (lines_of c.args.last.now)) to halt.NoMemory _ _ came (out_of_room site to _ _ (keeps_all _) refl)

pub returns-in_default-write_all-clause-err : goal.returns-in_default-write_all-clause-err
returns-in_default-write_all-clause-err g c =
    let site = c.args.site.now in
    let from : List (List ℕ) → Place = λ ls. place c.args.course.now ls (g.W.Sink.contents c.args.writer.now) (g.W.Sink.faults c.args.writer.now) in
    let one = one_line c.args.last.now c.requires.open in
    let to = place c.apply_line.new.course [] (g.W.Sink.contents c.apply_line.new.writer) (g.W.Sink.faults c.apply_line.new.writer) in
    let came : Comes site (from (lines_of c.args.last.now)) to = subst (λ ls. Comes site (from ls) to) (sym one) (c.in_ok-apply_line.ensures.ok []) in
    let text : c.as_slice.result.now ≡ end_line to.events (state_in to.held) = c.as_slice.ensures.value ∙ (rw c.new-text.ensures.items at c.in-Ok.ensures) in
    let torn = subst (Torn to.written (g.W.Sink.contents c.write_all.new.writer)) text c.in_default-write_all.ensures.torn in
    stops_behind site (from (lines_of c.args.last.now)) to halt.WriteFailed _ _ came (end_fails site to _ _ refl torn c.in_default-write_all.ensures.err)

pub returns-in_default-flush-clause-err : goal.returns-in_default-flush-clause-err
returns-in_default-flush-clause-err g c =
    let site = c.args.site.now in
    let from : List (List ℕ) → Place = λ ls. place c.args.course.now ls (g.W.Sink.contents c.args.writer.now) (g.W.Sink.faults c.args.writer.now) in
    let one = one_line c.args.last.now c.requires.open in
    let to = place c.apply_line.new.course [] (g.W.Sink.contents c.apply_line.new.writer) (g.W.Sink.faults c.apply_line.new.writer) in
    let came : Comes site (from (lines_of c.args.last.now)) to = subst (λ ls. Comes site (from ls) to) (sym one) (c.in_ok-apply_line.ensures.ok []) in
    let text : c.as_slice.result.now ≡ end_line to.events (state_in to.held) = c.as_slice.ensures.value ∙ (rw c.new-text.ensures.items at c.in-Ok.ensures) in
    let wrote = subst (Appends to.written (g.W.Sink.contents c.write_all.new.writer)) text c.in-Ok-write_all.ensures.ok in
    let rose = subst (λ f. Rose f (g.W.Sink.faults c.flush.new.self)) c.in-Ok-write_all.ensures.same c.in_default-flush.ensures.err in
    stops_behind site (from (lines_of c.args.last.now)) to halt.WriteFailed _ _ came
    (end_fails site to _ _ refl (torn_nowhere _ _ _ _ wrote c.flush.ensures.bytes) rose)

pub returns-clause-ok : goal.returns-clause-ok
returns-clause-ok g c =
    let site = c.args.site.now in
    let from : List (List ℕ) → Place = λ ls. place c.args.course.now ls (g.W.Sink.contents c.args.writer.now) (g.W.Sink.faults c.args.writer.now) in
    let one = one_line c.args.last.now c.requires.open in
    let to = place c.apply_line.new.course [] (g.W.Sink.contents c.apply_line.new.writer) (g.W.Sink.faults c.apply_line.new.writer) in
    let came : Comes site (from (lines_of c.args.last.now)) to = subst (λ ls. Comes site (from ls) to) (sym one) (c.in_ok-apply_line.ensures.ok []) in
    let text : c.as_slice.result.now ≡ end_line to.events (state_in to.held) = c.as_slice.ensures.value ∙ (rw c.new-text.ensures.items at c.in-Ok.ensures) in
    let wrote = subst (Appends to.written (g.W.Sink.contents c.write_all.new.writer)) text c.in-Ok-write_all.ensures.ok in
    finishes_behind site (from (lines_of c.args.last.now)) to _ _ came
    (finishes_now site to _ _ refl (Appends-kept _ _ _ _ wrote c.flush.ensures.bytes) (c.in-Ok-flush.ensures.ok ∙ c.in-Ok-write_all.ensures.same))
