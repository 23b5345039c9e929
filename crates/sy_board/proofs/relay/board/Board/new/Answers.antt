use Rattle.std.proofs.Common.{ℕ, length, subst, sym, ap, ◌∙◌}
use Rattle.std.specs.Arc.{arc_value}
use Rattle.sy_rules.specs.PlanValue.{Plan}
use Rattle.sy_board.specs.internal.Counting as counting
use Rattle.sy_board.specs.internal.Kept.{IsOrderly}
use Rattle.sy_board.specs.relay.Boards.{Account, opened}
use Rattle.sy_board.specs.relay.Cells.{opening}
use Rattle.sy_board.proofs.relay.Opening.{empty_entries, empty_marks, free_hands, opened_account, opened_orderly}
use Rattle.sy_board.proofs.relay.Orderly.{left_with}
use Rattle.sy_board.proofs.relay.board.Board.new.Goals as goal

pub invariant_of-result : goal.invariant_of-result
invariant_of-result c =
    let plan = arc_value c.args.plan in
    let queues = rw c.deref-3.ensures at c.in_ok-queues.ensures in
    let actions = c.actions.ensures ∙ ap (λ (p : Plan). p.actions) c.deref-5.ensures in
    let account = c.in_ok-accounts.ensures ∙ ap (λ (n : ℕ). counting.nothing n) (ap length actions) ∙ opened_account plan c.args.guard in
    let whole = rw c.deref.ensures at c.plans_are_whole.ensures in
    record {
      marks = rw queues (empty_marks plan.queues);
      orderly = rw (c.in_ok-hands.ensures, c.inputs.ensures, c.deref-2.ensures, free_hands, queues, empty_entries, c.in_ok-workers.ensures.entries, c.in_ok-workers.ensures.failures, c.workers.ensures, c.deref-4.ensures)
          (subst (λ (x : Account). IsOrderly (left_with (opened plan c.args.guard) (opening plan) x) x) (sym account) (opened_orderly plan c.args.guard whole c.requires));
    }

pub returns : goal.returns
returns c =
    let plan = arc_value c.args.plan in
    let queues = rw c.deref-3.ensures at c.in_ok-queues.ensures in
    let actions = c.actions.ensures ∙ ap (λ (p : Plan). p.actions) c.deref-5.ensures in
    let account = c.in_ok-accounts.ensures ∙ ap (λ (n : ℕ). counting.nothing n) (ap length actions) ∙ opened_account plan c.args.guard in
    rw (c.in_ok-hands.ensures, c.inputs.ensures, c.deref-2.ensures, free_hands, queues, empty_entries, c.in_ok-workers.ensures.entries, c.in_ok-workers.ensures.failures, c.workers.ensures, c.deref-4.ensures)
    (ap (λ (x : Account). left_with (opened plan c.args.guard) (opening plan) x) account)
