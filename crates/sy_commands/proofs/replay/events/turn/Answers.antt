use Rattle.std.proofs.Common.{◌≡◌, ℕ, List, ◌++◌, ◌∙◌, ap, inl, inr, refl, subst, sym}
use Rattle.std.proofs.lemmas.Result.{err_from_is_err_and}
use Rattle.sy_commands.specs.Replays.{lines_of}
use Rattle.sy_commands.specs.internal.Halts.{Comes, place}
use Rattle.sy_commands.specs.Halts.{HasCause, Stops}
use Rattle.sy_report.specs.declared.outcome.halt.Halt.TheVariants as halt
use Rattle.sy_commands.proofs.Courses.{comes_on, flush_fails, keeps_all, out_of_room, read_fails, stands_still, stops_behind}
use Rattle.sy_commands.proofs.Cutting.{open_behind, read_end, read_on}
use Rattle.sy_commands.proofs.Failing.{shorter_by}
use Rattle.sy_commands.proofs.replay.events.turn.Goals as goal

pub returns-in_default-clause-err : goal.returns-in_default-clause-err
returns-in_default-clause-err g c = λ ahead known.
    let site = c.args.site.now in
    let from = λ (ahead : List ℕ). place c.args.course.now (lines_of (c.args.pieces.now.held.items ++ ahead)) (g.W.Sink.contents c.args.writer.now)
    (g.W.Sink.faults c.args.writer.now) in
    flush_fails site (from ahead) _ _ c.flush.ensures.bytes c.in_default.ensures.err

pub returns-in_err-read_piece-clause-err : goal.returns-in_err-read_piece-clause-err
returns-in_err-read_piece-clause-err g c =
    let p = err_from_is_err_and c.from_residual.result c.from_residual.ensures.1 in
    let site = c.args.site.now in
    let from = λ (ahead : List ℕ). place c.args.course.now (lines_of (c.args.pieces.now.held.items ++ ahead)) (g.W.Sink.contents c.args.writer.now)
    (g.W.Sink.faults c.args.writer.now) in
    rw (p.1, p.2) (λ ahead known. elim c.in_err-read_piece.ensures.err [
      | inl is ↦ rw is (out_of_room site (from ahead) _ _ c.flush.ensures.bytes c.in-Ok.ensures.ok)
      | inr is ↦ rw is (read_fails site (from ahead) _ _ c.flush.ensures.bytes c.in-Ok.ensures.ok)
    ])

pub returns-in_err-read_piece-clause-cause : goal.returns-in_err-read_piece-clause-cause
returns-in_err-read_piece-clause-cause g c =
    let p = err_from_is_err_and c.from_residual.result c.from_residual.ensures.1 in
    rw (p.1, p.2) (elim c.in_err-read_piece.ensures.err [
      | inl is ↦ rw is c.in-Ok.ensures.ok
      | inr is ↦ rw is c.in-Ok.ensures.ok
    ])

pub returns-then-branch-eq0-clause-ok : goal.returns-then-branch-eq0-clause-ok
returns-then-branch-eq0-clause-ok g c = λ ahead known.
    let site = c.args.site.now in
    let held = c.args.pieces.now.held.items in
    let held' = c.read_piece.new.pieces.held.items in
    let from = place c.args.course.now (lines_of (held ++ ahead)) (g.W.Sink.contents c.args.writer.now) (g.W.Sink.faults c.args.writer.now) in
    let all = read_end held held' ahead c.in_ok-read_piece.field-0 _ c.if-branch-eq0.true (rw known at c.in_ok-read_piece.ensures.ok) in
    stands_still site from (lines_of held') _ _ (ap lines_of all) c.flush.ensures.bytes c.in-Ok.ensures.ok

pub returns-then-is_none-clause-ok : goal.returns-then-is_none-clause-ok
returns-then-is_none-clause-ok g c = λ ahead known.
    let site = c.args.site.now in
    let held = c.args.pieces.now.held.items in
    let held' = c.read_piece.new.pieces.held.items in
    let from = place c.args.course.now (lines_of (held ++ ahead)) (g.W.Sink.contents c.args.writer.now) (g.W.Sink.faults c.args.writer.now) in
    let r = read_on held held' ahead c.in_ok-read_piece.field-0 _ (rw known at c.in_ok-read_piece.ensures.ok) in
    (r.0, r.1, stands_still site from (lines_of (held' ++ r.0)) _ _ (ap lines_of r.2) c.flush.ensures.bytes c.in-Ok.ensures.ok)

pub returns-then-is_none-clause-open : goal.returns-then-is_none-clause-open
returns-then-is_none-clause-open g c =
    let held' = c.read_piece.new.pieces.held.items in
    open_behind c.args.pieces.now.held.items held' c.len-before.result c.in_ok-read_piece.field-0 c.memchr.result _ _ c.requires.open
    c.in_ok-read_piece.ensures.ok (c.len-before.ensures ∙ c.args.pieces.now.held.ok.0) (rw c.deref.ensures.value at c.memchr.ensures) c.if-is_none.ensures

pub returns-in_err-rest-clause-cause : goal.returns-in_err-rest-clause-cause
returns-in_err-rest-clause-cause g c =
    let p = err_from_is_err_and c.from_residual-in_err-rest.result c.from_residual-in_err-rest.ensures.1 in
    let why = c.in_err-rest.field-0.0 in
    rw (p.1, p.2) (subst (λ (before : ℕ). HasCause why before (g.W.Sink.faults c.apply_lines.new.writer)) c.in-Ok.ensures.ok c.in_err-rest.ensures.cause)

pub returns-in_err-rest-clause-err : goal.returns-in_err-rest-clause-err
returns-in_err-rest-clause-err g c =
    let p = err_from_is_err_and c.from_residual-in_err-rest.result c.from_residual-in_err-rest.ensures.1 in
    let site = c.args.site.now in
    let from = λ (ahead : List ℕ). place c.args.course.now (lines_of (c.args.pieces.now.held.items ++ ahead)) (g.W.Sink.contents c.args.writer.now)
    (g.W.Sink.faults c.args.writer.now) in
    let held = c.args.pieces.now.held.items in
    let held' = c.read_piece.new.pieces.held.items in
    let mid = λ (next : List ℕ). place c.args.course.now (lines_of (held' ++ next)) (g.W.Sink.contents c.flush.new.self) (g.W.Sink.faults c.flush.new.self) in
    let still = λ (ahead next : List ℕ) (same : held ++ ahead ≡ held' ++ next).
    stands_still site (from ahead) (lines_of (held' ++ next)) _ _ (ap lines_of same) c.flush.ensures.bytes c.in-Ok.ensures.ok in
    let why = c.in_err-rest.field-0.0 in
    rw (p.1, p.2) (λ ahead known.
    let r = read_on held held' ahead c.in_ok-read_piece.field-0 _ (rw known at c.in_ok-read_piece.ensures.ok) in
    stops_behind site (from ahead) (mid r.0) why _ _ (still ahead r.0 r.2)
    (subst (λ (bytes : List ℕ). Stops site (place c.args.course.now (lines_of (bytes ++ r.0)) (g.W.Sink.contents c.flush.new.self)
    (g.W.Sink.faults c.flush.new.self)) why (g.W.Sink.contents c.apply_lines.new.writer) (g.W.Sink.faults c.apply_lines.new.writer))
    c.as_slice.ensures.value (c.in_err-rest.ensures.err r.0)))

pub returns-in_default-copy_of-clause-err : goal.returns-in_default-copy_of-clause-err
returns-in_default-copy_of-clause-err g c = λ ahead known.
    let site = c.args.site.now in
    let from = λ (ahead : List ℕ). place c.args.course.now (lines_of (c.args.pieces.now.held.items ++ ahead)) (g.W.Sink.contents c.args.writer.now)
    (g.W.Sink.faults c.args.writer.now) in
    let held = c.args.pieces.now.held.items in
    let held' = c.read_piece.new.pieces.held.items in
    let mid = λ (next : List ℕ). place c.args.course.now (lines_of (held' ++ next)) (g.W.Sink.contents c.flush.new.self) (g.W.Sink.faults c.flush.new.self) in
    let still = λ (ahead next : List ℕ) (same : held ++ ahead ≡ held' ++ next).
    stands_still site (from ahead) (lines_of (held' ++ next)) _ _ (ap lines_of same) c.flush.ensures.bytes c.in-Ok.ensures.ok in
    let r = read_on held held' ahead c.in_ok-read_piece.field-0 _ (rw known at c.in_ok-read_piece.ensures.ok) in
    let to = place c.apply_lines.new.course (lines_of (c.in_ok-rest.rest.now ++ r.0)) (g.W.Sink.contents c.apply_lines.new.writer)
    (g.W.Sink.faults c.apply_lines.new.writer) in
    let came : Comes site (mid r.0) to =
    subst (λ (bytes : List ℕ). Comes site (place c.args.course.now (lines_of (bytes ++ r.0)) (g.W.Sink.contents c.flush.new.self)
    (g.W.Sink.faults c.flush.new.self)) to) c.as_slice.ensures.value (c.in_ok-rest.ensures.ok r.0) in
    stops_behind site (from ahead) to halt.NoMemory _ _ (comes_on site (from ahead) (mid r.0) to (still ahead r.0 r.2) came)
    (out_of_room site to _ _ (keeps_all _) refl)

pub returns-clause-ok : goal.returns-clause-ok
returns-clause-ok g c = λ ahead known.
    let site = c.args.site.now in
    let from = λ (ahead : List ℕ). place c.args.course.now (lines_of (c.args.pieces.now.held.items ++ ahead)) (g.W.Sink.contents c.args.writer.now)
    (g.W.Sink.faults c.args.writer.now) in
    let held = c.args.pieces.now.held.items in
    let held' = c.read_piece.new.pieces.held.items in
    let mid = λ (next : List ℕ). place c.args.course.now (lines_of (held' ++ next)) (g.W.Sink.contents c.flush.new.self) (g.W.Sink.faults c.flush.new.self) in
    let still = λ (ahead next : List ℕ) (same : held ++ ahead ≡ held' ++ next).
    stands_still site (from ahead) (lines_of (held' ++ next)) _ _ (ap lines_of same) c.flush.ensures.bytes c.in-Ok.ensures.ok in
    let r = read_on held held' ahead c.in_ok-read_piece.field-0 _ (rw known at c.in_ok-read_piece.ensures.ok) in
    let at = λ (bytes : List ℕ). place c.apply_lines.new.course (lines_of (bytes ++ r.0)) (g.W.Sink.contents c.apply_lines.new.writer)
    (g.W.Sink.faults c.apply_lines.new.writer) in
    let came : Comes site (mid r.0) (at c.in_ok-rest.rest.now) =
    subst (λ (bytes : List ℕ). Comes site (place c.args.course.now (lines_of (bytes ++ r.0)) (g.W.Sink.contents c.flush.new.self)
    (g.W.Sink.faults c.flush.new.self)) (at c.in_ok-rest.rest.now)) c.as_slice.ensures.value (c.in_ok-rest.ensures.ok r.0) in
    let copied = subst (λ (bytes : List ℕ). Comes site (mid r.0) (at bytes)) (sym c.in-Ok-copy_of.ensures) came in
    (r.0, r.1, comes_on site (from ahead) (mid r.0) (at c.in-Ok-copy_of.rest.items) (still ahead r.0 r.2) copied)

-- ---- why reading fails, and how far it comes

pub returns-in_err-read_piece-clause-unread : goal.returns-in_err-read_piece-clause-unread
returns-in_err-read_piece-clause-unread g c =
    let p = err_from_is_err_and c.from_residual.result c.from_residual.ensures.1 in
    rw (p.1, p.2) (λ is. (c.args.reader.now, c.read_piece.new.reader, c.in_err-read_piece.ensures.unread is))

pub returns-in_err-rest-clause-unread : goal.returns-in_err-rest-clause-unread
returns-in_err-rest-clause-unread g c =
    let p = err_from_is_err_and c.from_residual-in_err-rest.result c.from_residual-in_err-rest.ensures.1 in
    rw (p.1, p.2) (λ is. absurd (c.in_err-rest.ensures.kind is))

pub returns-then-is_none-clause-shorter : goal.returns-then-is_none-clause-shorter
returns-then-is_none-clause-shorter g c = λ more.
    shorter_by _ _ c.in_ok-read_piece.field-0 _ _ c.in_ok-read_piece.ensures.ok c.if-branch-eq0.false

pub returns-clause-shorter : goal.returns-clause-shorter
returns-clause-shorter g c = λ more.
    shorter_by _ _ c.in_ok-read_piece.field-0 _ _ c.in_ok-read_piece.ensures.ok c.if-branch-eq0.false
