use Rattle.std.proofs.Common.{arith, ◌+◌, ◌-◌, ◌*◌, get_or, ◌<◌, ◌≢◌, refl}
use Rattle.sy_wire.specs.Characters.{IsDigit}
use Rattle.sy_relp.proofs.Numbers.{number_more, number_text}
use Rattle.sy_relp.proofs.Stops.{all_digits, great, never_first, never_zero, not_great_first, not_great_zero}
use Rattle.sy_relp.proofs.parts.number.Goals as goal
use Rattle.sy_relp.proofs.parts.number.Goals.{else-i-gt0-via-then-i-gt0+else-value-eq0, else-i-gt0-via-else-i-gt0}

pub loop-i-preserved : goal.loop-i-preserved
loop-i-preserved c =
    let later : 0 < c.loop-i.i → c.loop-i.value ≢ 0 =
    elim c.else-i-gt0.branch [
      | else-i-gt0-via-then-i-gt0+else-value-eq0 w ↦ λ some is. omega arith
      | else-i-gt0-via-else-i-gt0 w ↦ λ some is. omega arith
    ] in
    record {
      within = omega arith;
      digits = rw c.from.ensures (number_more c.args.bytes.now c.loop-i.i c.loop-i.value _ c.loop-i-test.true refl c.if-not-is_ascii_digit.ensures.cases later (omega arith) c.loop-i.invariant.digits);
      most = omega arith;
    }

pub returns-then-i-eq0-clause-err : goal.returns-then-i-eq0-clause-err
returns-then-i-eq0-clause-err c =
    let not : IsDigit (get_or c.args.bytes.now c.loop-i.i 0) → ⊥ = λ digit. omega (arith, c.if-not-is_ascii_digit.ensures.cases, digit.0, digit.1) in
    (never_first c.args.max c.args.bytes.now c.loop-i.i c.requires c.loop-i-test.true c.if-i-eq0.true not, not_great_first c.args.max c.args.bytes.now c.loop-i.i c.loop-i-test.true c.if-i-eq0.true not)

pub returns-then-value-eq0-clause-err : goal.returns-then-value-eq0-clause-err
returns-then-value-eq0-clause-err c = (
  never_zero c.args.max c.args.bytes.now c.loop-i.i c.loop-i.value c.requires c.if-i-gt0.true c.if-value-eq0.true c.loop-i-test.true c.loop-i.invariant.digits c.if-not-is_ascii_digit.ensures.cases,
  not_great_zero c.args.max c.args.bytes.now c.loop-i.i c.loop-i.value c.if-i-gt0.true c.if-value-eq0.true c.loop-i.invariant.digits,
)

pub returns-then-value-from-clause-err : goal.returns-then-value-from-clause-err
returns-then-value-from-clause-err c =
    let later : 0 < c.loop-i.i → c.loop-i.value ≢ 0 =
    elim c.else-i-gt0.branch [
      | else-i-gt0-via-then-i-gt0+else-value-eq0 w ↦ λ some is. omega arith
      | else-i-gt0-via-else-i-gt0 w ↦ λ some is. omega arith
    ] in
    let text = number_text c.args.bytes.now c.loop-i.i c.loop-i.value _ c.loop-i-test.true refl c.if-not-is_ascii_digit.ensures.cases later c.loop-i.invariant.digits in
    let above : c.args.max < c.loop-i.value * 10 + (get_or c.args.bytes.now c.loop-i.i 0 - 48) = omega (arith, c.if-value-from.true, c.from.ensures, c.from-in-loop-i.ensures) in
    let digit = c.if-not-is_ascii_digit.ensures.cases in
    great c.args.max c.args.bytes.now (c.loop-i.i + 1) (c.loop-i.value * 10 + (get_or c.args.bytes.now c.loop-i.i 0 - 48)) above (omega (arith, c.loop-i.invariant.most, digit.1)) text

pub returns-clause-err : goal.returns-clause-err
returns-clause-err c = all_digits c.args.max c.args.bytes.now c.loop-i.i c.loop-i.value c.loop-i-test.false c.loop-i.invariant.within c.loop-i.invariant.most c.loop-i.invariant.digits
