use Rattle.std.proofs.Common.{ℕ, List, ◌++◌, ◌∙◌, subst, sym}
use Rattle.std.proofs.lemmas.Result.{err_from_is_err_and}
use Rattle.sy_commands.specs.Replays.{lines_of}
use Rattle.sy_commands.specs.internal.Halts.{Comes, place}
use Rattle.sy_commands.specs.Halts.{Place, Stops}
use Rattle.sy_commands.proofs.Courses.{comes_on, stops_behind}
use Rattle.sy_commands.proofs.replay.events.apply_lines.Goals as goal

pub returns-in_err-apply_line-clause-err : goal.returns-in_err-apply_line-clause-err
returns-in_err-apply_line-clause-err g c =
    let p = err_from_is_err_and c.from_residual.result c.from_residual.ensures.1 in
    let site = c.args.site.now in
    let why = c.in_err-apply_line.field-0.0 in
    let at : List (List ℕ) → Place = λ ls. place c.loop-line.course ls (g.W.Sink.contents c.loop-line.writer) (g.W.Sink.faults c.loop-line.writer) in
    rw (p.1, p.2) (λ ahead.
    stops_behind site _ (at (lines_of (c.loop-line.rest.now ++ ahead))) why _ _ (c.loop-line.invariant.comes ahead)
    (subst (λ ls. Stops site (at ls) why (g.W.Sink.contents c.apply_line.new.writer) (g.W.Sink.faults c.apply_line.new.writer))
    (sym (c.in-Some.ensures.some ahead)) (c.in_err-apply_line.ensures.err (lines_of (c.in-Some.behind.now ++ ahead)))))

pub loop-line-preserved : goal.loop-line-preserved
loop-line-preserved g c =
    let site = c.args.site.now in
    let at : List (List ℕ) → Place = λ ls. place c.loop-line.course ls (g.W.Sink.contents c.loop-line.writer) (g.W.Sink.faults c.loop-line.writer) in
    record {
      of = c.apply_line.ensures.of;
      same = c.in_ok-apply_line.ensures.same ∙ c.loop-line.invariant.same;
      comes = λ ahead.
          let to = place c.apply_line.new.course (lines_of (c.in-Some.behind.now ++ ahead)) (g.W.Sink.contents c.apply_line.new.writer)
          (g.W.Sink.faults c.apply_line.new.writer) in
          comes_on site _ (at (lines_of (c.loop-line.rest.now ++ ahead))) to (c.loop-line.invariant.comes ahead)
          (subst (λ ls. Comes site (at ls) to) (sym (c.in-Some.ensures.some ahead))
          (c.in_ok-apply_line.ensures.ok (lines_of (c.in-Some.behind.now ++ ahead))));
    }
