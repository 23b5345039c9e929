use Rattle.std.proofs.Common.{ℕ, List, ◌++◌, ◌∙◌, arith, inl, inr, refl, subst}
use Rattle.std.proofs.lemmas.Result.{err_from_is_err_and}
use Rattle.sy_commands.specs.Replays.{lines_of}
use Rattle.sy_commands.specs.internal.Halts.{Comes, place}
use Rattle.sy_commands.specs.Halts.{Finishes, Stops}
use Rattle.sy_report.specs.declared.outcome.halt.Halt.TheVariants as halt
use Rattle.sy_commands.proofs.Courses.{comes_on, finishes_behind, keeps_all, read_fails, stops_behind, turned_last, turned_on}
use Rattle.sy_places.proofs.Promised.{if_err, on_ok}
use Rattle.sy_commands.proofs.replay.events.turns.Goals as goal

pub returns-in_err-turn-clause-err : goal.returns-in_err-turn-clause-err
returns-in_err-turn-clause-err g c =
    let p = err_from_is_err_and c.from_residual.result c.from_residual.ensures.1 in
    let site = c.args.site.now in
    let at = λ (next : List ℕ). place c.loop.course (lines_of (c.loop.pieces.held.items ++ next)) (g.W.Sink.contents c.loop.writer) (g.W.Sink.faults c.loop.writer) in
    let why = c.in_err-turn.field-0.0 in
    rw (p.1, p.2) (λ ahead known.
    let k = c.loop.invariant.comes ahead known in
    stops_behind site _ (at k.0) why _ _ k.2 (c.in_err-turn.ensures.err k.0 k.1))

pub returns-then-not-branch-clause-ok : goal.returns-then-not-branch-clause-ok
returns-then-not-branch-clause-ok g c =
    let site = c.args.site.now in
    let at = λ (next : List ℕ). place c.loop.course (lines_of (c.loop.pieces.held.items ++ next)) (g.W.Sink.contents c.loop.writer) (g.W.Sink.faults c.loop.writer) in
    let held = c.turn.new.pieces.held.items in
    let to = λ (bytes : List ℕ). place c.turn.new.course (lines_of bytes) (g.W.Sink.contents c.turn.new.writer) (g.W.Sink.faults c.turn.new.writer) in
    on_ok c.finish.result c.finish.ensures.ok (λ finishes ahead known.
    let k = c.loop.invariant.comes ahead known in
    let turned : Comes site (at k.0) (to held) =
    turned_last c.in_ok-turn.field-0 site (at k.0) held _ _ c.if-not-branch.true (c.in_ok-turn.ensures.ok k.0 k.1) in
    finishes_behind site _ (to held) _ _ (comes_on site _ (at k.0) (to held) k.2 turned)
    (subst (λ bytes. Finishes site (to bytes) (g.W.Sink.contents c.finish.new.writer) (g.W.Sink.faults c.finish.new.writer)) c.as_slice.ensures.value finishes))

pub returns-then-not-branch-clause-err : goal.returns-then-not-branch-clause-err
returns-then-not-branch-clause-err g c =
    let site = c.args.site.now in
    let at = λ (next : List ℕ). place c.loop.course (lines_of (c.loop.pieces.held.items ++ next)) (g.W.Sink.contents c.loop.writer) (g.W.Sink.faults c.loop.writer) in
    let held = c.turn.new.pieces.held.items in
    let to = λ (bytes : List ℕ). place c.turn.new.course (lines_of bytes) (g.W.Sink.contents c.turn.new.writer) (g.W.Sink.faults c.turn.new.writer) in
    if_err c.finish.result c.finish.ensures.err (λ why stops ahead known.
    let k = c.loop.invariant.comes ahead known in
    let turned : Comes site (at k.0) (to held) =
    turned_last c.in_ok-turn.field-0 site (at k.0) held _ _ c.if-not-branch.true (c.in_ok-turn.ensures.ok k.0 k.1) in
    stops_behind site _ (to held) why _ _ (comes_on site _ (at k.0) (to held) k.2 turned)
    (subst (λ bytes. Stops site (to bytes) why (g.W.Sink.contents c.finish.new.writer) (g.W.Sink.faults c.finish.new.writer)) c.as_slice.ensures.value stops))

pub loop-preserved : goal.loop-preserved
loop-preserved g c =
    let site = c.args.site.now in
    let at = λ (next : List ℕ). place c.loop.course (lines_of (c.loop.pieces.held.items ++ next)) (g.W.Sink.contents c.loop.writer) (g.W.Sink.faults c.loop.writer) in
    let held = c.turn.new.pieces.held.items in
    let to = λ (bytes : List ℕ). place c.turn.new.course (lines_of bytes) (g.W.Sink.contents c.turn.new.writer) (g.W.Sink.faults c.turn.new.writer) in
    record {
      of = c.turn.ensures.of;
      same = c.in_ok-turn.ensures.same ∙ c.loop.invariant.same;
      room = c.turn.ensures.room;
      is_open = c.in_ok-turn.ensures.open;
      comes = λ ahead known.
          let k = c.loop.invariant.comes ahead known in
          let t = turned_on c.in_ok-turn.field-0 site (at k.0) held _ _ c.if-not-branch.false (c.in_ok-turn.ensures.ok k.0 k.1) in
          (t.0, t.1, comes_on site _ (at k.0) (to (held ++ t.0)) k.2 t.2);
      left = λ ahead later known is.
          let k = c.loop.invariant.comes ahead known in
          let less = c.in_ok-turn.ensures.shorter c.if-not-branch.false k.0 later k.1 is in
          let before = c.loop.invariant.left ahead k.0 known k.1 in
          omega (arith, less, before);
    }

pub returns-clause-err : goal.returns-clause-err
returns-clause-err g c = λ ahead known.
    let site = c.args.site.now in
    let at = λ (next : List ℕ). place c.loop.course (lines_of (c.loop.pieces.held.items ++ next)) (g.W.Sink.contents c.loop.writer) (g.W.Sink.faults c.loop.writer) in
    let k = c.loop.invariant.comes ahead known in
    stops_behind site _ (at k.0) halt.ReadFailed _ _ k.2 (read_fails site (at k.0) _ _ (keeps_all _) refl)

pub returns-in_err-turn-clause-unread : goal.returns-in_err-turn-clause-unread
returns-in_err-turn-clause-unread g c =
    let p = err_from_is_err_and c.from_residual.result c.from_residual.ensures.1 in
    rw (p.1, p.2) (λ is ahead known. inl (c.in_err-turn.ensures.unread is))

pub returns-then-not-branch-clause-unread : goal.returns-then-not-branch-clause-unread
returns-then-not-branch-clause-unread g c = if_err c.finish.result c.finish.ensures.kind (λ why never is. absurd (never is))

-- as many reads as are made, each of a byte at least
pub returns-clause-unread : goal.returns-clause-unread
returns-clause-unread g c = λ is ahead known.
    let k = c.loop.invariant.comes ahead known in
    inr (omega (arith, c.loop.invariant.left ahead k.0 known k.1))
