use Rattle.std.proofs.Common.{arith}
use Rattle.sy_relp.proofs.Stops.{bad_number, bad_space, never_great, txnr_short}
use Rattle.sy_relp.proofs.parts.txnr_at.Goals as goal

pub returns-in-Err-Short-clause-err : goal.returns-in-Err-Short-clause-err
returns-in-Err-Short-clause-err c = txnr_short c.args.bytes.now (rw c.in-Err-Short.field-0-is at c.in-Err-Short.ensures.err)

pub returns-in-Err-Great-clause-err : goal.returns-in-Err-Great-clause-err
returns-in-Err-Great-clause-err c =
    let g = rw c.in-Err-Great.field-0-is at c.in-Err-Great.ensures.err in
    bad_number c.args.bytes.now (never_great 999999999 g.0 c.args.bytes.now g.1 (omega arith) g.2 g.3 g.4)

pub returns-in-None-clause-err : goal.returns-in-None-clause-err
returns-in-None-clause-err c = bad_space c.args.bytes.now _ _ c.in-Ok.ensures.ok.0 c.in-Ok.ensures.ok.1 c.in-Ok.ensures.ends c.in-None.ensures.none
