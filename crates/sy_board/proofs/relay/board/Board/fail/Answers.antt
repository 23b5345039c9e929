use Rattle.std.proofs.Common.{◌≡◌, ◌+◌, None, Some, refl, sym, subst, ◌∙◌}
use Rattle.std.specs.Arc.{arc_value}
use Rattle.std.proofs.lemmas.Result.{err_from_is_err_and}
use Rattle.sy_board.specs.declared.relay.answers.Retry.TheVariants as retry
use Rattle.sy_board.specs.relay.Boards.{BoardState, FailIs}
use Rattle.sy_board.specs.relay.Plans.{retry_at}
use Rattle.sy_board.specs.internal.Kept.{board_inside}
use Rattle.sy_board.proofs.relay.JobAccounts.{run_left}
use Rattle.sy_board.proofs.relay.JobSteps.{IsAdvanced, IsRefused, again_counted, again_forever, again_is, again_kept, fail_fails, give_up_full, given_up_is, given_up_kept, last_of, not_offered, run_as, slot_in}
use Rattle.sy_board.proofs.relay.Slots.{job_of, with_worker}
use Rattle.sy_board.proofs.relay.Firsts.{front_read}
use Rattle.sy_board.proofs.relay.board.Board.fail.Goals as goal

pub returns-in_err-left-clause-err : goal.returns-in_err-left-clause-err
returns-in_err-left-clause-err c =
    let is = slot_in c.self.inside c.args.self.now c.args.worker c.index_mut-slot.result.now c.self.view_is c.self.invariant c.requires c.index_mut-slot.ensures.value in
    let p = err_from_is_err_and c.from_residual.result c.from_residual.ensures.1 in
    rw (p.1, p.2, ← c.self.view_is) (fail_fails c.in_err-left.field-0.0 c.self.inside c.args.worker c.index_mut-slot.result.now c.deref.result.now c.args.failure.now c.device-device.result
    c.deref-2.result.now is c.deref.ensures c.device-device.ensures (rw c.deref-2.ensures c.message.ensures.value) c.in_err-left.ensures.err)

pub returns-then-not-was_offered-clause-err : goal.returns-then-not-was_offered-clause-err
returns-then-not-was_offered-clause-err c =
    let run = run_as c.self.inside c.args.self.now c.args.worker c.index_mut-slot.result.now c.deref.result.now c.args.failure.now.device c.device-device.result
    c.args.failure.now.message c.deref-2.result.now c.in_ok-left.left c.self.view_is c.self.invariant c.requires c.index_mut-slot.ensures.value c.deref.ensures c.device-device.ensures
    (rw c.deref-2.ensures c.message.ensures.value) c.in_ok-left.ensures.ok in
    rw (← c.self.view_is) (not_offered c.self.inside c.args.worker c.index_mut-slot.result.now c.args.failure.now c.in_ok-left.left run (c.was_offered.ensures.no c.if-not-was_offered.true))

pub returns-in_default-clause-ok : goal.returns-in_default-clause-ok
returns-in_default-clause-ok c =
    let run = run_as c.self.inside c.args.self.now c.args.worker c.index_mut-slot.result.now c.deref.result.now c.args.failure.now.device c.device-device.result
    c.args.failure.now.message c.deref-2.result.now c.in_ok-left.left c.self.view_is c.self.invariant c.requires c.index_mut-slot.ensures.value c.deref.ensures c.device-device.ensures
    (rw c.deref-2.ensures c.message.ensures.value) c.in_ok-left.ensures.ok in
    let is : IsRefused c.self.inside c.args.worker c.index_mut-slot.result.now c.args.failure.now c.in_ok-left.left =
    record { run = run; offered = c.was_offered.ensures.yes c.if-not-was_offered.false } in
    let none : retry_at (arc_value c.self.inside.plan) c.args.failure.now.device ≡ None = rw (c.deref-3.ensures, c.device-device.ensures) at (sym c.retry_of.ensures ∙ c.in_default.is) in
    let new = record c.index_mut-slot.result.now { failures = c.index_mut-slot.result.now.failures } in
    subst (λ (old : BoardState). FailIs retry.Again old c.args.worker c.args.failure.now (board_inside (with_worker c.self.inside c.args.worker new c.self.inside.accounts))) c.self.view_is
    (again_is c.self.inside c.args.worker c.index_mut-slot.result.now new c.args.failure.now c.in_ok-left.left is (again_forever _ c.index_mut-slot.result.now new none refl refl))

pub invariant_of-self-then-slot-retry : goal.invariant_of-self-then-slot-retry
invariant_of-self-then-slot-retry c =
    let run = run_as c.self.inside c.args.self.now c.args.worker c.index_mut-slot.result.now c.deref.result.now c.args.failure.now.device c.device-device.result
    c.args.failure.now.message c.deref-2.result.now c.in_ok-left.left c.self.view_is c.self.invariant c.requires c.index_mut-slot.ensures.value c.deref.ensures c.device-device.ensures
    (rw c.deref-2.ensures c.message.ensures.value) c.in_ok-left.ensures.ok in
    let limit : retry_at (arc_value c.self.inside.plan) c.args.failure.now.device ≡ Some c.in-Some.retry =
    rw (c.deref-3.ensures, c.device-device.ensures) at (sym c.retry_of.ensures ∙ c.in-Some.is) in
    let new = record c.index_mut-slot.result.now { failures = c.index_mut-slot.result.now.failures + 1 } in
    again_kept c.self.inside c.args.worker c.index_mut-slot.result.now new c.args.failure.now.device c.in_ok-left.left run.turn
    (again_counted _ c.index_mut-slot.result.now new c.in-Some.retry limit c.if-slot-retry.true refl refl)

pub returns-then-slot-retry-clause-ok : goal.returns-then-slot-retry-clause-ok
returns-then-slot-retry-clause-ok c =
    let run = run_as c.self.inside c.args.self.now c.args.worker c.index_mut-slot.result.now c.deref.result.now c.args.failure.now.device c.device-device.result
    c.args.failure.now.message c.deref-2.result.now c.in_ok-left.left c.self.view_is c.self.invariant c.requires c.index_mut-slot.ensures.value c.deref.ensures c.device-device.ensures
    (rw c.deref-2.ensures c.message.ensures.value) c.in_ok-left.ensures.ok in
    let is : IsRefused c.self.inside c.args.worker c.index_mut-slot.result.now c.args.failure.now c.in_ok-left.left =
    record { run = run; offered = c.was_offered.ensures.yes c.if-not-was_offered.false } in
    let limit : retry_at (arc_value c.self.inside.plan) c.args.failure.now.device ≡ Some c.in-Some.retry =
    rw (c.deref-3.ensures, c.device-device.ensures) at (sym c.retry_of.ensures ∙ c.in-Some.is) in
    let new = record c.index_mut-slot.result.now { failures = c.index_mut-slot.result.now.failures + 1 } in
    subst (λ (old : BoardState). FailIs retry.Again old c.args.worker c.args.failure.now (board_inside (with_worker c.self.inside c.args.worker new c.self.inside.accounts))) c.self.view_is
    (again_is c.self.inside c.args.worker c.index_mut-slot.result.now new c.args.failure.now c.in_ok-left.left is
    (again_counted _ c.index_mut-slot.result.now new c.in-Some.retry limit c.if-slot-retry.true refl refl))

pub count_give_up-requires : goal.count_give_up-requires
count_give_up-requires c =
    let run = run_as c.self.inside c.args.self.now c.args.worker c.index_mut-slot.result.now c.deref.result.now c.args.failure.now.device c.device-device.result
    c.args.failure.now.message c.deref-2.result.now c.in_ok-left.left c.self.view_is c.self.invariant c.requires c.index_mut-slot.ensures.value c.deref.ensures c.device-device.ensures
    (rw c.deref-2.ensures c.message.ensures.value) c.in_ok-left.ensures.ok in
    rw c.device-device.ensures
    (run_left c.self.inside c.self.invariant c.args.worker c.args.failure.now.device (job_of c.self.inside c.args.worker c.index_mut-slot.result.now _ c.in_ok-left.left run.turn.is run.turn.next))

pub returns-in_default-count_give_up-clause-err : goal.returns-in_default-count_give_up-clause-err
returns-in_default-count_give_up-clause-err c =
    let run = run_as c.self.inside c.args.self.now c.args.worker c.index_mut-slot.result.now c.deref.result.now c.args.failure.now.device c.device-device.result
    c.args.failure.now.message c.deref-2.result.now c.in_ok-left.left c.self.view_is c.self.invariant c.requires c.index_mut-slot.ensures.value c.deref.ensures c.device-device.ensures
    (rw c.deref-2.ensures c.message.ensures.value) c.in_ok-left.ensures.ok in
    let is : IsRefused c.self.inside c.args.worker c.index_mut-slot.result.now c.args.failure.now c.in_ok-left.left =
    record { run = run; offered = c.was_offered.ensures.yes c.if-not-was_offered.false } in
    let limit : retry_at (arc_value c.self.inside.plan) c.args.failure.now.device ≡ Some c.in-Some.retry =
    rw (c.deref-3.ensures, c.device-device.ensures) at (sym c.retry_of.ensures ∙ c.in-Some.is) in
    let last = last_of c.self.inside c.args.worker c.index_mut-slot.result.now c.args.failure.now c.in_ok-left.left c.in-Some.retry c.is_guarded_occurrence-guarded.result c.in-Some-front.node.now
    is limit c.if-slot-retry.false (front_read _ _ c.in-Some-front.ensures.some) (rw (c.deref-4.ensures, c.device-device.ensures) at c.is_guarded_occurrence-guarded.ensures) in
    rw (← c.self.view_is)
    (give_up_full c.self.inside c.args.worker c.index_mut-slot.result.now c.args.failure.now c.in_ok-left.left c.is_guarded_occurrence-guarded.result last (rw c.device-device.ensures at c.in_default-count_give_up.ensures.full))

pub invariant_of-self-2 : goal.invariant_of-self-2
invariant_of-self-2 c =
    let run = run_as c.self.inside c.args.self.now c.args.worker c.index_mut-slot.result.now c.deref.result.now c.args.failure.now.device c.device-device.result
    c.args.failure.now.message c.deref-2.result.now c.in_ok-left.left c.self.view_is c.self.invariant c.requires c.index_mut-slot.ensures.value c.deref.ensures c.device-device.ensures
    (rw c.deref-2.ensures c.message.ensures.value) c.in_ok-left.ensures.ok in
    let is : IsRefused c.self.inside c.args.worker c.index_mut-slot.result.now c.args.failure.now c.in_ok-left.left =
    record { run = run; offered = c.was_offered.ensures.yes c.if-not-was_offered.false } in
    let limit : retry_at (arc_value c.self.inside.plan) c.args.failure.now.device ≡ Some c.in-Some.retry =
    rw (c.deref-3.ensures, c.device-device.ensures) at (sym c.retry_of.ensures ∙ c.in-Some.is) in
    let last = last_of c.self.inside c.args.worker c.index_mut-slot.result.now c.args.failure.now c.in_ok-left.left c.in-Some.retry c.is_guarded_occurrence-guarded.result c.in-Some-front.node.now
    is limit c.if-slot-retry.false (front_read _ _ c.in-Some-front.ensures.some) (rw (c.deref-4.ensures, c.device-device.ensures) at c.is_guarded_occurrence-guarded.ensures) in
    let on : IsAdvanced c.index_mut-slot.result.now c.advance.new.worker c.in_ok-left.left = record { entries = c.advance.ensures.entries; failures = c.advance.ensures.failures } in
    given_up_kept c.self.inside c.args.worker c.index_mut-slot.result.now c.advance.new.worker c.args.failure.now c.in_ok-left.left c.is_guarded_occurrence-guarded.result c.count_give_up.new.self
    last on (rw c.device-device.ensures at c.in-Ok.ensures.ok)

pub returns-clause-ok : goal.returns-clause-ok
returns-clause-ok c =
    let run = run_as c.self.inside c.args.self.now c.args.worker c.index_mut-slot.result.now c.deref.result.now c.args.failure.now.device c.device-device.result
    c.args.failure.now.message c.deref-2.result.now c.in_ok-left.left c.self.view_is c.self.invariant c.requires c.index_mut-slot.ensures.value c.deref.ensures c.device-device.ensures
    (rw c.deref-2.ensures c.message.ensures.value) c.in_ok-left.ensures.ok in
    let is : IsRefused c.self.inside c.args.worker c.index_mut-slot.result.now c.args.failure.now c.in_ok-left.left =
    record { run = run; offered = c.was_offered.ensures.yes c.if-not-was_offered.false } in
    let limit : retry_at (arc_value c.self.inside.plan) c.args.failure.now.device ≡ Some c.in-Some.retry =
    rw (c.deref-3.ensures, c.device-device.ensures) at (sym c.retry_of.ensures ∙ c.in-Some.is) in
    let last = last_of c.self.inside c.args.worker c.index_mut-slot.result.now c.args.failure.now c.in_ok-left.left c.in-Some.retry c.is_guarded_occurrence-guarded.result c.in-Some-front.node.now
    is limit c.if-slot-retry.false (front_read _ _ c.in-Some-front.ensures.some) (rw (c.deref-4.ensures, c.device-device.ensures) at c.is_guarded_occurrence-guarded.ensures) in
    let on : IsAdvanced c.index_mut-slot.result.now c.advance.new.worker c.in_ok-left.left = record { entries = c.advance.ensures.entries; failures = c.advance.ensures.failures } in
    subst (λ (old : BoardState). FailIs retry.GaveUp old c.args.worker c.args.failure.now (board_inside (with_worker c.self.inside c.args.worker c.advance.new.worker c.count_give_up.new.self))) c.self.view_is
    (given_up_is c.self.inside c.args.worker c.index_mut-slot.result.now c.advance.new.worker c.args.failure.now c.in_ok-left.left c.is_guarded_occurrence-guarded.result c.count_give_up.new.self
    last on (rw c.device-device.ensures at c.in-Ok.ensures.ok))
