use Rattle.std.proofs.Common.{refl, arith}
use Rattle.sy_select.proofs.Cutting.{behind_at, cut_none, front_at}
use Rattle.sy_select.proofs.pieces.cut.Goals as goal

pub returns-then-byte-mark-clause-front : goal.returns-then-byte-mark-clause-front
returns-then-byte-mark-clause-front c = front_at c.args.mark c.loop-at.at c.args.bytes.now c.loop-at-test.true c.loop-at.invariant c.if-byte-mark.true

pub returns-then-byte-mark-clause-behind : goal.returns-then-byte-mark-clause-behind
returns-then-byte-mark-clause-behind c = behind_at c.args.mark c.loop-at.at c.args.bytes.now c.loop-at-test.true c.loop-at.invariant c.if-byte-mark.true

pub returns-clause-front : goal.returns-clause-front
returns-clause-front c = rw (cut_none c.args.mark c.args.bytes.now (λ k h. c.loop-at.invariant k (omega arith))) refl

pub returns-clause-behind : goal.returns-clause-behind
returns-clause-behind c = rw (cut_none c.args.mark c.args.bytes.now (λ k h. c.loop-at.invariant k (omega arith))) refl
