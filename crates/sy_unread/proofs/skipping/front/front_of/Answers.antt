use Rattle.std.proofs.Common.{arith, ◌≡◌, ◌≢◌, ◌<◌, get_or, inr, refl}
use Rattle.sy_unread.proofs.Fronts.{digits_more, has_head, not_framed, more_bound, open_front, ten_digits}
use Rattle.sy_unread.proofs.skipping.front.front_of.Goals as goal
use Rattle.sy_unread.proofs.skipping.front.front_of.Goals.{else-i-eq0-via-then-i-eq0+else-b-eq48, else-i-eq0-via-else-i-eq0, else-i-gt0-via-then-i-gt0+else-b-eq32, else-i-gt0-via-else-i-gt0}

pub returns-then-size-ge100000000 : goal.returns-then-size-ge100000000
returns-then-size-ge100000000 c =
    let apart : c.loop-i.i ≡ 0 → get_or c.args.bytes.now c.loop-i.i 0 ≢ 48 =
    elim c.else-i-eq0.branch [
      | else-i-eq0-via-then-i-eq0+else-b-eq48 w ↦ λ first is. omega arith
      | else-i-eq0-via-else-i-eq0 w ↦ λ first is. omega arith
    ] in
    let more = digits_more _ _ _ _ c.loop-i-test.true refl c.if-is_ascii_digit.ensures.cases apart c.loop-i.invariant in
    ten_digits _ _ _ more.0 (omega arith) (more_bound _ _ _ _ c.loop-i.invariant c.if-is_ascii_digit.ensures.cases)

pub returns-then-b-eq32 : goal.returns-then-b-eq32
returns-then-b-eq32 c =
    let head = has_head _ _ _ c.loop-i-test.true c.if-b-eq32.true c.loop-i.invariant c.if-i-gt0.true in
    c.with_head.ensures _ head.0 head.1

pub returns-else-i-gt0 : goal.returns-else-i-gt0
returns-else-i-gt0 c =
    let not_space : 0 < c.loop-i.i → get_or c.args.bytes.now c.loop-i.i 0 ≢ 32 =
    elim c.else-i-gt0.branch [
      | else-i-gt0-via-then-i-gt0+else-b-eq32 w ↦ λ later is. omega arith
      | else-i-gt0-via-else-i-gt0 w ↦ λ later is. omega arith
    ] in
    not_framed _ _ _ _ c.loop-i-test.true refl c.loop-i.invariant (λ digit. omega (arith, c.if-is_ascii_digit.ensures.cases, digit.0, digit.1)) not_space

pub loop-i-preserved : goal.loop-i-preserved
loop-i-preserved c =
    let apart : c.loop-i.i ≡ 0 → get_or c.args.bytes.now c.loop-i.i 0 ≢ 48 =
    elim c.else-i-eq0.branch [
      | else-i-eq0-via-then-i-eq0+else-b-eq48 w ↦ λ first is. omega arith
      | else-i-eq0-via-else-i-eq0 w ↦ λ first is. omega arith
    ] in
    let more = digits_more _ _ _ _ c.loop-i-test.true refl c.if-is_ascii_digit.ensures.cases apart c.loop-i.invariant in
    rw c.from.ensures (inr (omega arith, (more.1, omega (arith, c.if-is_ascii_digit.ensures.cases, c.if-size-ge100000000.false)), more.0))

pub returns : goal.returns
returns c = open_front _ _ _ (omega arith) c.loop-i.invariant
