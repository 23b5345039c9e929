use Rattle.std.proofs.KnownBytes.{Keeps-refl}
use Rattle.sy_unread.proofs.Causes.{fails_then, no_end, none_went, one_more}
use Rattle.sy_unread.proofs.Turns.{reads, sets_both, stays}
use Rattle.sy_unread.proofs.skipping.Skipping.next.Goals as goal

pub loop-turns-init : goal.loop-turns-init
loop-turns-init g c = record { aside = stays _ _ _ _ (Keeps-refl _); going = none_went _ _ _ _ }

pub returns-in-Gives-clause-ok : goal.returns-in-Gives-clause-ok
returns-in-Gives-clause-ok g c = reads _ _ _ _ _ _ _ _ _ _ c.loop-turns.invariant.aside c.in-Gives.ensures.turn.1 c.in-Gives.ensures.turn.2

pub returns-in-Fails-clause-err : goal.returns-in-Fails-clause-err
returns-in-Fails-clause-err g c = sets_both _ _ _ _ _ _ _ _ _ c.loop-turns.invariant.aside c.in-Fails.ensures.turn

pub returns-in-Fails-clause-cause : goal.returns-in-Fails-clause-cause
returns-in-Fails-clause-cause g c = fails_then _ _ _ _ _ _ _ _ _ _ _ _ c.loop-turns.invariant.going c.in-Fails.ensures.cause

pub returns-clause-err : goal.returns-clause-err
returns-clause-err g c = c.loop-turns.invariant.aside

pub returns-clause-cause : goal.returns-clause-cause
returns-clause-cause g c = no_end _ _ _ _ _ _ _ _ _ c.loop-turns-test.false c.loop-turns.invariant.going

pub loop-turns-preserved : goal.loop-turns-preserved
loop-turns-preserved g c = record {
  aside = sets_both _ _ _ _ _ _ _ _ _ c.loop-turns.invariant.aside c.in-GoesOn.ensures.turn;
  going = one_more _ _ _ _ _ _ _ _ _ _ _ _ _ c.loop-turns.invariant.going c.in-GoesOn.ensures.cause;
}
