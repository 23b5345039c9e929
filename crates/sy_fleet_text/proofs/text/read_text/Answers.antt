use Rattle.std.proofs.Common.{refl, sym, arith}
use Rattle.std.proofs.lemmas.Result.{err_from_is_err_and}
use Rattle.sy_fleet_text.specs.Faults.{memory, too_long, unread, no_block, unended}
use Rattle.sy_fleet_text.specs.Texts.{none}
use Rattle.sy_fleet_text.proofs.Readings.{closing_byte, covers_more, stands_found}
use Rattle.sy_fleet_text.proofs.text.read_text.Goals as goal

pub returns-then-text-gt-MAX_TEXT : goal.returns-then-text-gt-MAX_TEXT
returns-then-text-gt-MAX_TEXT c = too_long (omega arith) refl

pub loop-at-init : goal.loop-at-init
loop-at-init c = (rw c.new-pieces.ensures.items none, omega arith, omega arith, omega arith)

pub returns-in-Err : goal.returns-in-Err
returns-in-Err c = unread c.loop-at.invariant.0 refl c.loop-at-test.true c.in-Err.ensures

pub returns-in_default : goal.returns-in_default
returns-in_default c =
    let closes = c.in_default.ensures.closes in
    no_block c.loop-at.invariant.0 refl closes.1 (closing_byte _ _ _ _ closes.0 c.in-Ok.ensures.is)

pub returns-in_err-append-in-Ok : goal.returns-in_err-append-in-Ok
returns-in_err-append-in-Ok c =
    let p = err_from_is_err_and c.from_residual.result c.from_residual.ensures.1 in
    rw (p.1, p.2) memory

pub loop-at-preserved : goal.loop-at-preserved
loop-at-preserved c =
    let kept = c.loop-at.invariant in
    let found = c.in-Ok.ensures in (
      rw (c.context_after-context.ensures, c.in_ok-append-in-Ok.ensures) (covers_more _ kept.0 (stands_found _ _ found) (sym c.in-Some.ensures.is)),
      found.within,
      omega (arith, c.in-Some.ensures.closes, found.some),
      kept.3,
    )

pub returns-in-Some-at_end : goal.returns-in-Some-at_end
returns-in-Some-at_end c = unended c.loop-at.invariant.0 refl (omega arith) (sym c.in-Some-at_end.ensures)
