use Rattle.sy_fleet.specs.internal.Actions as inside
use Rattle.sy_fleet.proofs.objects.planned_action.Goals as goal

pub returns-then-not-found-clause-action : goal.returns-then-not-found-clause-action
returns-then-not-found-clause-action c = rw c.in_ok-text.ensures (inside.IsAction.always c.if-not-found.true)

pub returns-clause-action : goal.returns-clause-action
returns-clause-action c = rw (c.in_ok-whole.ensures, c.as_slice.ensures.value, c.as_slice-2.ensures.value, c.in_ok-text.ensures)
    (inside.IsAction.sometimes _ c.in_ok-test.ensures.open)
