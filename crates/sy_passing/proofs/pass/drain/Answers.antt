use Rattle.std.proofs.Common.{◌∙◌, arith}
use Rattle.std.proofs.lemmas.Result.{err_from_is_err_and}
use Rattle.sy_passing.proofs.Passes.{carry_tears, entry_fails, gives_frame, left_shrinks, pass_frame}
use Rattle.sy_passing.proofs.pass.drain.Goals as goal

pub frames-preserved : goal.frames-preserved
frames-preserved g c =
    let made = c.in_ok-node-in-Ok-true.ensures.ok in
    let gives = gives_frame _ _ _ _ c.in-Ok-true.field-0-test c.in-Ok-true.ensures.ok in
    let less = left_shrinks _ _ _ gives in
    let one = c.in-Ok.ensures.taken in
    record {
      idle = c.in-Ok.ensures.idle;
      lent = c.in-Ok.ensures.lent ∙ c.frames.invariant.lent;
      whole = c.in-Ok.ensures.whole;
      good = gives.stays_good;
      room = omega (arith, less, one, c.frames.invariant.room);
      small = c.frames.invariant.small;
      advances = pass_frame _ _ _ _ _ _ _ _ _ _ c.frames.invariant.advances gives made.is_message made.text _ one c.in-Ok.ensures.ok;
      same = c.in-Ok.ensures.same ∙ c.frames.invariant.same;
    }

pub returns-in-Err-WriteFailed-clause-err : goal.returns-in-Err-WriteFailed-clause-err
returns-in-Err-WriteFailed-clause-err g c =
    let made = c.in_ok-node-in-Ok-true.ensures.ok in
    let gives = gives_frame _ _ _ _ c.in-Ok-true.field-0-test c.in-Ok-true.ensures.ok in
    carry_tears _ _ _ _ _ _ _ _ _ _ c.frames.invariant.advances gives made.is_message made.text 0 (rw c.in-Err-WriteFailed.field-0-is at c.in-Err-WriteFailed.ensures.err)

pub returns-in_err-node-in-Ok-true-clause-err : goal.returns-in_err-node-in-Ok-true-clause-err
returns-in_err-node-in-Ok-true-clause-err g c =
    let gives = gives_frame _ _ _ _ c.in-Ok-true.field-0-test c.in-Ok-true.ensures.ok in
    let p = err_from_is_err_and c.from_residual.result c.from_residual.ensures.1 in
    rw (p.1, p.2) (entry_fails _ _ _ _ _ _ _ _ _ c.frames.invariant.advances gives c.in_err-node-in-Ok-true.ensures.err)
