use Rattle.std.proofs.Common.{refl, subst}
use Rattle.sy_board.specs.relay.Boards.{BoardState, SettleIs}
use Rattle.sy_board.specs.internal.Kept.{board_inside}
use Rattle.sy_board.proofs.relay.JobAccounts.{run_left}
use Rattle.sy_board.proofs.relay.JobSteps.{IsAdvanced, left_is, run_as, settle_fails, settle_full, settled_is, settled_kept, slot_in}
use Rattle.sy_board.proofs.relay.Slots.{job_of, with_worker}
use Rattle.sy_board.proofs.relay.board.Board.done.Goals as goal

pub returns-in-Err-clause-err : goal.returns-in-Err-clause-err
returns-in-Err-clause-err c =
    let is = slot_in c.self.inside c.args.self.now c.args.worker c.index_mut-slot.result.now c.self.view_is c.self.invariant c.requires c.index_mut-slot.ensures.value in
    rw (← c.self.view_is) (settle_fails c.in-Err.fault c.self.inside c.args.worker c.index_mut-slot.result.now c.deref.result.now (record { device = c.args.device; message = c.args.message.now }) c.args.device c.args.message.now
    is c.deref.ensures refl refl c.in-Err.ensures.err)

pub count_done-requires : goal.count_done-requires
count_done-requires c =
    let run = run_as c.self.inside c.args.self.now c.args.worker c.index_mut-slot.result.now c.deref.result.now c.args.device c.args.device
    c.args.message.now c.args.message.now c.in-Ok.left c.self.view_is c.self.invariant c.requires c.index_mut-slot.ensures.value c.deref.ensures refl
    refl c.in-Ok.ensures.ok in
    (run_left c.self.inside c.self.invariant c.args.worker c.args.device (job_of c.self.inside c.args.worker c.index_mut-slot.result.now _ c.in-Ok.left run.turn.is run.turn.next))

pub returns-in_default-clause-err : goal.returns-in_default-clause-err
returns-in_default-clause-err c =
    let run = run_as c.self.inside c.args.self.now c.args.worker c.index_mut-slot.result.now c.deref.result.now c.args.device c.args.device
    c.args.message.now c.args.message.now c.in-Ok.left c.self.view_is c.self.invariant c.requires c.index_mut-slot.ensures.value c.deref.ensures refl
    refl c.in-Ok.ensures.ok in
    rw (← c.self.view_is) (settle_full c.self.inside c.args.worker c.index_mut-slot.result.now (record { device = c.args.device; message = c.args.message.now }) c.in-Ok.left run c.in_default.ensures.full)

pub invariant_of-self-2 : goal.invariant_of-self-2
invariant_of-self-2 c =
    let run = run_as c.self.inside c.args.self.now c.args.worker c.index_mut-slot.result.now c.deref.result.now c.args.device c.args.device
    c.args.message.now c.args.message.now c.in-Ok.left c.self.view_is c.self.invariant c.requires c.index_mut-slot.ensures.value c.deref.ensures refl
    refl c.in-Ok.ensures.ok in
    let on : IsAdvanced c.index_mut-slot.result.now c.advance.new.worker c.in-Ok.left = record { entries = c.advance.ensures.entries; failures = c.advance.ensures.failures } in
    settled_kept c.self.inside c.args.worker c.index_mut-slot.result.now c.advance.new.worker c.args.device c.in-Ok.left c.count_done.new.self run.turn on
    c.in-Ok-count_done.ensures.ok

pub returns-clause-ok : goal.returns-clause-ok
returns-clause-ok c =
    let run = run_as c.self.inside c.args.self.now c.args.worker c.index_mut-slot.result.now c.deref.result.now c.args.device c.args.device
    c.args.message.now c.args.message.now c.in-Ok.left c.self.view_is c.self.invariant c.requires c.index_mut-slot.ensures.value c.deref.ensures refl
    refl c.in-Ok.ensures.ok in
    let on : IsAdvanced c.index_mut-slot.result.now c.advance.new.worker c.in-Ok.left = record { entries = c.advance.ensures.entries; failures = c.advance.ensures.failures } in
    subst (λ (old : BoardState). SettleIs old c.args.worker (record { device = c.args.device; message = c.args.message.now }) (board_inside (with_worker c.self.inside c.args.worker c.advance.new.worker c.count_done.new.self))) c.self.view_is
    (settled_is c.self.inside c.args.worker c.index_mut-slot.result.now c.advance.new.worker (record { device = c.args.device; message = c.args.message.now }) c.in-Ok.left c.count_done.new.self run on
    c.in-Ok-count_done.ensures.ok)

pub returns-clause-out : goal.returns-clause-out
returns-clause-out c =
    let is = slot_in c.self.inside c.args.self.now c.args.worker c.index_mut-slot.result.now c.self.view_is c.self.invariant c.requires c.index_mut-slot.ensures.value in
    rw (← c.self.view_is) (left_is c.self.inside c.args.worker c.index_mut-slot.result.now c.advance.new.worker c.count_done.new.self c.advance.result is c.advance.ensures.out c.advance.ensures.stays)
