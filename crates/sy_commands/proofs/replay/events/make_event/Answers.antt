use Rattle.std.proofs.Common.{◌≡◌, ◌∷◌, length, refl, subst}
use Rattle.std.proofs.lemmas.Result.{err_from_is_err_and}
use Rattle.std.specs.Io.KnownBytes.{Appends}
use Rattle.sy_replay.specs.Events.{site_event}
use Rattle.sy_replay.specs.States.{Applies, state_at}
use Rattle.sy_commands.specs.internal.Halts.{IsTorn, later_losses, place}
use Rattle.sy_commands.proofs.Courses.{event_refused, keeps_all, losses_counted, losses_torn, step_made}
use Rattle.sy_commands.proofs.replay.events.make_event.Goals as goal

pub returns-in-Err-clause-err : goal.returns-in-Err-clause-err
returns-in-Err-clause-err g c = λ text later stands.
    let from = place c.args.course.now (text ∷ later) (g.W.Sink.contents c.args.writer.now) (g.W.Sink.faults c.args.writer.now) in
    rw c.halt_of.ensures
    (event_refused c.args.site.now from text later (site_event c.args.event.now) c.in-Err.illegal _ _ refl stands
    (rw c.requires.of at c.in-Err.ensures.err) (keeps_all _) refl)

pub returns-in_err-print_losses-clause-err : goal.returns-in_err-print_losses-clause-err
returns-in_err-print_losses-clause-err g c =
    let p = err_from_is_err_and c.from_residual.result c.from_residual.ensures.1 in
    let why = c.in_err-print_losses.field-0.0 in
    let site = c.args.site.now in
    let new = c.apply.new.self.contents in
    let made : Applies site c.args.course.now.replay.contents (site_event c.args.event.now) new = rw c.requires.of at c.in_default.ensures.ok in
    let counted : length c.losses-before.result.now ≡ length (state_at c.args.course.now.replay).losses =
    losses_counted c.losses-before.result.now (state_at c.args.course.now.replay).losses c.losses-before.ensures.all in
    let torn = subst (λ n. IsTorn why (later_losses site new c.args.course.now.line n) (g.W.Sink.contents c.args.writer.now)
    (g.W.Sink.faults c.args.writer.now) (g.W.Sink.contents c.print_losses.new.writer) (g.W.Sink.faults c.print_losses.new.writer)) counted
    c.in_err-print_losses.ensures.err in
    rw (p.1, p.2) (λ text later stands.
    let from = place c.args.course.now (text ∷ later) (g.W.Sink.contents c.args.writer.now) (g.W.Sink.faults c.args.writer.now) in
    losses_torn site from text later (site_event c.args.event.now) new why _ _ refl stands made torn)

pub returns-clause-ok : goal.returns-clause-ok
returns-clause-ok g c = λ text later stands.
    let site = c.args.site.now in
    let new = c.apply.new.self.contents in
    let from = place c.args.course.now (text ∷ later) (g.W.Sink.contents c.args.writer.now) (g.W.Sink.faults c.args.writer.now) in
    let made : Applies site c.args.course.now.replay.contents (site_event c.args.event.now) new = rw c.requires.of at c.in_default.ensures.ok in
    let counted : length c.losses-before.result.now ≡ length (state_at c.args.course.now.replay).losses =
    losses_counted c.losses-before.result.now (state_at c.args.course.now.replay).losses c.losses-before.ensures.all in
    let wrote = subst (λ n. Appends (g.W.Sink.contents c.args.writer.now) (g.W.Sink.contents c.print_losses.new.writer)
    (later_losses site new c.args.course.now.line n)) counted c.in_ok-print_losses.ensures.ok in
    step_made site from _ text (site_event c.args.event.now) stands refl c.saturating_add-course-2.ensures c.saturating_add-course.ensures made wrote
    c.in_ok-print_losses.ensures.same
