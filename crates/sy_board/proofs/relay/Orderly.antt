-- A step keeps a board orderly.
use Rattle.std.proofs.Common.{◌≡◌, List, refl, sym, subst, ap, arith}
use Rattle.sy_board.specs.relay.Boards.{Account, BoardState, account_of, guard_of, stepped}
use Rattle.sy_board.specs.relay.Cells.{RelayState}
use Rattle.sy_board.specs.relay.Steps.{Event, Out, Step}
use Rattle.sy_board.specs.relay.Totals.{guarded_losses}
use Rattle.sy_board.specs.internal.Kept.{IsOrderly}
use Rattle.sy_board.proofs.relay.AccountLaws.{laws_counted}
use Rattle.sy_board.proofs.relay.Batches.{batches_step}
use Rattle.sy_board.proofs.relay.Guards.{guarding_step}
use Rattle.sy_board.proofs.relay.Patience.{patient_step}
use Rattle.sy_board.proofs.relay.Shapes.{shape_step}

pub orderly_step : (old : BoardState) → IsOrderly old (account_of old) → (event : Event) (new : RelayState) (outs : List Out)
    → Step old.plan old.state event new outs → IsOrderly (stepped old event new outs) (account_of (stepped old event new outs))
orderly_step old o event new outs step =
    let kept = guarding_step old.plan (guard_of old) o.may old.state event new outs o.guarding step in
    let none : guarded_losses old.plan (guard_of old) outs ≡ 0 = kept.1 in
    let before : old.totals.guarded_lost ≡ 0 = o.unlost in
    record {
      whole = o.whole;
      shaped = shape_step old.plan old.state event new outs o.shaped step;
      laws = laws_counted old.plan (guard_of old) old.state event new outs old.totals o.whole o.shaped o.laws step;
      counted = refl;
      batches = batches_step old.plan old.state event new outs o.whole o.batches step;
      patient = patient_step old.plan old.state event new outs o.patient step;
      may = o.may;
      guarding = kept.0;
      unlost = omega (arith, none, before);
    }

-- the board that a method leaves
abbrev pub left_with : BoardState → RelayState → Account → BoardState
left_with old new b = record { plan = old.plan; guard = old.guard; state = new; totals = b.totals }

-- where its account is the one of the step
pub kept_by : (old : BoardState) (a : Account) → IsOrderly old a → (event : Event) (new : RelayState) (outs : List Out)
    → Step old.plan old.state event new outs → (b : Account) → b ≡ account_of (stepped old event new outs) → IsOrderly (left_with old new b) b
kept_by old a o event new outs step b is =
    subst (λ (x : Account). IsOrderly (left_with old new x) x) (sym is)
    (orderly_step old (subst (IsOrderly old) o.counted o) event new outs step)

pub same_board : (old : BoardState) (event : Event) (new : RelayState) (outs : List Out) (b : Account) → b ≡ account_of (stepped old event new outs)
    → left_with old new b ≡ stepped old event new outs
same_board old event new outs b is = ap (left_with old new) is
