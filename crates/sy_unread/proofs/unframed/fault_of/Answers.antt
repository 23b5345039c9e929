use Rattle.std.proofs.Common.{arith, ◌≡◌, ◌≢◌, ◌<◌, get_or, refl, inr}
use Rattle.sy_wire.proofs.Digits.{digits_more}
use Rattle.sy_unread.proofs.Strays.{digits_are_framed, fails_bad, fails_long, fails_zero, head_is_framed}
use Rattle.sy_unread.proofs.unframed.fault_of.Goals as goal
use Rattle.sy_unread.proofs.unframed.fault_of.Goals.{else-i-eq0-via-then-i-eq0+else-b-eq48, else-i-eq0-via-else-i-eq0, else-i-gt0-via-then-i-gt0+else-b-eq32, else-i-gt0-via-else-i-gt0}

pub returns-then-b-eq48 : goal.returns-then-b-eq48
returns-then-b-eq48 c is = fails_zero _ _ _ c.loop-i-test.true c.if-b-eq48.true c.if-i-eq0.true c.loop-i.invariant

pub returns-then-size-gt-MAX_FRAME : goal.returns-then-size-gt-MAX_FRAME
returns-then-size-gt-MAX_FRAME c is =
    let apart : c.loop-i.i ≡ 0 → get_or c.args.bytes.now c.loop-i.i 0 ≢ 48 =
    elim c.else-i-eq0.branch [
      | else-i-eq0-via-then-i-eq0+else-b-eq48 w ↦ λ first is. omega arith
      | else-i-eq0-via-else-i-eq0 w ↦ λ first is. omega arith
    ] in
    let more = digits_more _ _ _ _ c.loop-i-test.true refl c.if-is_ascii_digit.ensures.cases apart c.loop-i.invariant in
    fails_long _ _ _ _ c.loop-i-test.true c.loop-i.invariant more.0 (omega arith) (omega arith)

pub returns-then-b-eq32 : goal.returns-then-b-eq32
returns-then-b-eq32 c is = absurd (head_is_framed _ _ _ c.loop-i-test.true c.if-b-eq32.true c.loop-i.invariant c.if-i-gt0.true is)

pub returns-else-i-gt0 : goal.returns-else-i-gt0
returns-else-i-gt0 c is =
    let not_space : 0 < c.loop-i.i → get_or c.args.bytes.now c.loop-i.i 0 ≢ 32 =
    elim c.else-i-gt0.branch [
      | else-i-gt0-via-then-i-gt0+else-b-eq32 w ↦ λ later is. omega arith
      | else-i-gt0-via-else-i-gt0 w ↦ λ later is. omega arith
    ] in
    fails_bad _ _ _ _ c.loop-i-test.true refl c.loop-i.invariant (λ digit. omega (arith, c.if-is_ascii_digit.ensures.cases, digit.0, digit.1)) not_space

pub loop-i-preserved : goal.loop-i-preserved
loop-i-preserved c =
    let apart : c.loop-i.i ≡ 0 → get_or c.args.bytes.now c.loop-i.i 0 ≢ 48 =
    elim c.else-i-eq0.branch [
      | else-i-eq0-via-then-i-eq0+else-b-eq48 w ↦ λ first is. omega arith
      | else-i-eq0-via-else-i-eq0 w ↦ λ first is. omega arith
    ] in
    let more = digits_more _ _ _ _ c.loop-i-test.true refl c.if-is_ascii_digit.ensures.cases apart c.loop-i.invariant in
    rw c.from.ensures (inr (omega arith, (more.1, omega arith), more.0))

pub returns : goal.returns
returns c is = absurd (digits_are_framed _ _ _ (omega arith) c.loop-i.invariant is)
