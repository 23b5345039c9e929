use Rattle.std.proofs.Common.{◌≡◌, ◌-◌, ◌∙◌, ap, drop, flat_map, length, subst, take}
use Rattle.std.specs.Io.KnownBytes.{Appends}
use Rattle.sy_replay.specs.Events.{losses_of}
use Rattle.sy_replay.specs.States.{state_at}
use Rattle.sy_commands.specs.Replays.{loss_line}
use Rattle.sy_report.specs.Reports.{Torn}
use Rattle.sy_commands.proofs.Courses.{losses_behind}
use Rattle.sy_commands.proofs.replay.events.print_losses.Goals as goal

pub returns-in-Ok-write_all-clause-ok : goal.returns-in-Ok-write_all-clause-ok
returns-in-Ok-write_all-clause-ok g c =
    let losses = c.losses-losses.result.now in
    let first = c.args.first in
    let line = loss_line c.args.site.now (state_at c.args.course.now.replay) c.args.course.now.line in
    let text : c.append_losses.new.text.items ≡ flat_map line (losses_of (take (length losses - first) (drop first losses))) =
    rw c.new-text.ensures.items at c.in-Ok.ensures in
    let behind : losses_of (take (length losses - first) (drop first losses)) ≡ drop first (state_at c.args.course.now.replay).losses =
    losses_behind losses first ∙ ap (drop first) c.losses-losses.ensures.all in
    subst (Appends (g.W.Sink.contents c.args.writer.now) (g.W.Sink.contents c.write_all.new.writer))
    (c.as_slice.ensures.value ∙ text ∙ ap (flat_map line) behind) c.in-Ok-write_all.ensures.ok

pub returns-clause-err : goal.returns-clause-err
returns-clause-err g c =
    let losses = c.losses-losses.result.now in
    let first = c.args.first in
    let line = loss_line c.args.site.now (state_at c.args.course.now.replay) c.args.course.now.line in
    let text : c.append_losses.new.text.items ≡ flat_map line (losses_of (take (length losses - first) (drop first losses))) =
    rw c.new-text.ensures.items at c.in-Ok.ensures in
    let behind : losses_of (take (length losses - first) (drop first losses)) ≡ drop first (state_at c.args.course.now.replay).losses =
    losses_behind losses first ∙ ap (drop first) c.losses-losses.ensures.all in (
      subst (Torn (g.W.Sink.contents c.args.writer.now) (g.W.Sink.contents c.write_all.new.writer))
          (c.as_slice.ensures.value ∙ text ∙ ap (flat_map line) behind) c.in-Err.ensures.torn,
      c.in-Err.ensures.err,
    )
