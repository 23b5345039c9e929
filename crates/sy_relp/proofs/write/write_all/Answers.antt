use Rattle.std.proofs.Common.{arith}
use Rattle.sy_wire.proofs.Held.{appends_more}
use Rattle.sy_relp.proofs.Written.{writes_front, writes_whole}
use Rattle.sy_relp.proofs.write.write_all.Goals as goal

pub loop-at-preserved : goal.loop-at-preserved
loop-at-preserved g c =
    record {
      within = omega (arith, c.in-Ok.ensures.bound, c.split_at.ensures.back_len, c.loop-at.invariant.within);
      wrote = appends_more _ _ _ c.args.bytes.now _ c.loop-at.at c.in-Ok.count c.loop-at.invariant.wrote c.split_at.ensures.back c.in-Ok.ensures.bytes;
    }

pub returns-in-Err-clause-torn : goal.returns-in-Err-clause-torn
returns-in-Err-clause-torn g c = writes_front _ _ _ c.args.bytes.now c.loop-at.at c.loop-at-test.true c.loop-at.invariant.wrote c.in-Err.ensures.bytes

pub returns-clause-whole : goal.returns-clause-whole
returns-clause-whole g c = writes_whole _ _ c.args.bytes.now c.loop-at.at c.loop-at.invariant.within (omega (arith, c.loop-at-test.false)) c.loop-at.invariant.wrote
