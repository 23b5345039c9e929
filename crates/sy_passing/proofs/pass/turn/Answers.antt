use Rattle.std.proofs.Common.{ap}
use Rattle.std.proofs.lemmas.Result.{err_from_is_err_and}
use Rattle.sy_passing.proofs.Passes.{after_read, part_of_passed, passed_nothing, read_stops, turn_goes_on, turn_stops}
use Rattle.sy_passing.proofs.pass.turn.Goals as goal

pub returns-in_default-clause-turned : goal.returns-in_default-clause-turned
returns-in_default-clause-turned g c = λ ahead known. part_of_passed _ _ _ _ _ (passed_nothing _ _ _ c.flush.ensures.bytes)

pub returns-in_err-read_piece-clause-turned : goal.returns-in_err-read_piece-clause-turned
returns-in_err-read_piece-clause-turned g c = λ ahead known.
    let p = err_from_is_err_and c.from_residual.result c.from_residual.ensures.1 in
    rw (p.1, p.2) (read_stops _ _ _ _ _ _ _ c.flush.ensures.bytes c.in_err-read_piece.ensures.cause)

pub returns-in_err-drain-clause-turned : goal.returns-in_err-drain-clause-turned
returns-in_err-drain-clause-turned g c = λ ahead known.
    let p = err_from_is_err_and c.from_residual-in_err-drain.result c.from_residual-in_err-drain.ensures.1 in
    let filled = c.in_ok-read_piece.ensures.ok in
    let next = after_read ahead _ _ (rw known at filled.reads.consumed) in
    let held_is = ap (λ f. f.left) filled.feeds.after in
    rw (p.1, p.2) (turn_stops _ c.args.framer.now.left ahead next.0 _ _ _ _ _ _ _ c.flush.ensures.bytes next.2 held_is c.in_err-drain.ensures.err)

pub returns-clause-turned : goal.returns-clause-turned
returns-clause-turned g c = λ ahead known.
    let filled = c.in_ok-read_piece.ensures.ok in
    let next = after_read ahead _ _ (rw known at filled.reads.consumed) in
    let held_is = ap (λ f. f.left) filled.feeds.after in
    (next.0, next.1, turn_goes_on c.args.framer.now.left ahead next.0 _ _ _ _ _ _ _ _ c.flush.ensures.bytes next.2 held_is c.in_ok-drain.ensures.ok)
