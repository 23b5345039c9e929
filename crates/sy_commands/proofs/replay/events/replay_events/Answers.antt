use Rattle.std.proofs.Common.{◌≡◌, refl}
use Rattle.sy_commands.specs.Replays.{lines_of, opened}
use Rattle.sy_commands.specs.Halts.{start}
use Rattle.sy_commands.proofs.Courses.{finishes_started, keeps_all, opened_is, out_of_room, stops_started}
use Rattle.sy_places.proofs.Promised.{if_err, on_ok}
use Rattle.sy_commands.proofs.replay.events.replay_events.Goals as goal

pub returns-in_default-clause-err : goal.returns-in_default-clause-err
returns-in_default-clause-err g c = λ events known.
    out_of_room c.args.site.now (start c.args.site.now (lines_of events) (g.W.Sink.contents c.args.writer.now) (g.W.Sink.faults c.args.writer.now)) _ _
    (keeps_all _) refl

pub returns-in_default-vec-clause-err : goal.returns-in_default-vec-clause-err
returns-in_default-vec-clause-err g c = λ events known.
    out_of_room c.args.site.now (start c.args.site.now (lines_of events) (g.W.Sink.contents c.args.writer.now) (g.W.Sink.faults c.args.writer.now)) _ _
    (keeps_all _) refl

pub returns-clause-ok : goal.returns-clause-ok
returns-clause-ok g c =
    let site = c.args.site.now in
    let is : c.in-Ok.replay.contents ≡ opened site = opened_is site c.in-Ok.replay.contents c.in-Ok.ensures.1 c.in-Ok.ensures.2 in
    on_ok c.turns.result c.turns.ensures.ok (λ finishes events known.
    finishes_started site c.in-Ok.replay.contents c.new-2.result.items events _ _ _ _ is c.new-2.ensures.items (finishes events known))

pub returns-clause-err : goal.returns-clause-err
returns-clause-err g c =
    let site = c.args.site.now in
    let is : c.in-Ok.replay.contents ≡ opened site = opened_is site c.in-Ok.replay.contents c.in-Ok.ensures.1 c.in-Ok.ensures.2 in
    if_err c.turns.result c.turns.ensures.err (λ why stops events known.
    stops_started site c.in-Ok.replay.contents c.new-2.result.items events _ _ why _ _ is c.new-2.ensures.items (stops events known))
