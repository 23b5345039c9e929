use Rattle.std.proofs.Common.{◌≡◌, ◌<◌, ◌++◌, List, ap, arith, drop, refl, sym, ◌∙◌, subst}
use Rattle.std.specs.Arc.{arc_value}
use Rattle.sy_chain.specs.Entries.{Entry}
use Rattle.sy_marks.specs.Marks.{QueueState, kept_of, lost_of}
use Rattle.sy_board.specs.internal.Counting.{became_due}
use Rattle.sy_board.specs.internal.Kept.{IsKept}
use Rattle.sy_board.proofs.relay.Grabbing.{account_after, after_board, after_kept, back_kept, enough, grab_answer, kept_are, kept_items, reads_by, room, too_full, written}
use Rattle.sy_board.proofs.relay.board.Board.grab.Goals as goal

pub count_grab-requires : goal.count_grab-requires
count_grab-requires c =
    let reads = reads_by c.self.view_is c.requires c.deref.ensures c.index_mut-slot.ensures.value (c.is_empty.ensures.0 c.if-not-is_empty.false)
    c.batch_of-queue.ensures.queue c.batch_of-queue.ensures.batch c.index_mut-queue.ensures.value c.len.ensures.value c.min-count.ensures in
    enough c.self.invariant reads

pub invariant_of-self-in_default : goal.invariant_of-self-in_default
invariant_of-self-in_default c =
    let reads = reads_by c.self.view_is c.requires c.deref.ensures c.index_mut-slot.ensures.value (c.is_empty.ensures.0 c.if-not-is_empty.false)
    c.batch_of-queue.ensures.queue c.batch_of-queue.ensures.batch c.index_mut-queue.ensures.value c.len.ensures.value c.min-count.ensures in
    subst (λ (q : QueueState). IsKept (written c.self.inside c.batch_of-queue.result.0 q c.args.worker c.index_mut-slot.result.now c.count_grab.new.self)) (sym c.losses-lost_count.ensures.same)
    (back_kept c.self.invariant reads c.index_mut-slot.result.now refl refl c.count_grab.new.self c.in_default.ensures.unchanged)

pub returns-in_default-clause-err : goal.returns-in_default-clause-err
returns-in_default-clause-err c =
    let some : 0 < c.min-count.result = omega arith in
    let reads = reads_by c.self.view_is c.requires c.deref.ensures c.index_mut-slot.ensures.value (c.is_empty.ensures.0 c.if-not-is_empty.false)
    c.batch_of-queue.ensures.queue c.batch_of-queue.ensures.batch c.index_mut-queue.ensures.value c.len.ensures.value c.min-count.ensures in
    too_full c.self.invariant reads some c.losses-lost_count.result.0 c.losses-lost_count.result.1 c.losses-lost_count.ensures.lost (rw c.deref-2.ensures at c.losses-lost_count.ensures.guarded) c.in_default.ensures.full c.args.self.now c.self.view_is

pub move_batch-lost-requires-clause-fits : goal.move_batch-lost-requires-clause-fits
move_batch-lost-requires-clause-fits c =
    let reads = reads_by c.self.view_is c.requires c.deref.ensures c.index_mut-slot.ensures.value (c.is_empty.ensures.0 c.if-not-is_empty.false)
    c.batch_of-queue.ensures.queue c.batch_of-queue.ensures.batch c.index_mut-queue.ensures.value c.len.ensures.value c.min-count.ensures in
    rw (c.deref-3.ensures, c.losses-lost_count.ensures.same) (room c.self.invariant reads c.losses-lost_count.result.0 c.losses-lost_count.result.1 c.losses-lost_count.ensures.lost (rw c.deref-2.ensures at c.losses-lost_count.ensures.guarded)
    (kept_of c.index_mut-queue.result.now.marks c.min-count.result c.index_mut-queue.result.now.entries) (kept_are c.self.invariant reads) c.count_grab.new.self c.in-Ok.ensures.ok)

pub invariant_of-self-2 : goal.invariant_of-self-2
invariant_of-self-2 c =
    let some : 0 < c.min-count.result = omega arith in
    let reads = reads_by c.self.view_is c.requires c.deref.ensures c.index_mut-slot.ensures.value (c.is_empty.ensures.0 c.if-not-is_empty.false)
    c.batch_of-queue.ensures.queue c.batch_of-queue.ensures.batch c.index_mut-queue.ensures.value c.len.ensures.value c.min-count.ensures in
    let same : c.losses-lost_count.new.queue ≡ c.index_mut-queue.result.now = c.losses-lost_count.ensures.same in
    let slot = record c.index_mut-slot.result.now { entries = c.move_batch-lost.new.entries } in
    let rest : c.move_batch-lost.new.queue ≡ record c.index_mut-queue.result.now { entries = drop c.min-count.result c.index_mut-queue.result.now.entries } = c.move_batch-lost.ensures.rest ∙ ap (λ (q : QueueState). record q { entries = drop c.min-count.result q.entries }) same in
    let items : c.move_batch-lost.new.entries ≡ c.index_mut-slot.result.now.entries ++ kept_of c.index_mut-queue.result.now.marks c.min-count.result c.index_mut-queue.result.now.entries =
    c.move_batch-lost.ensures.kept ∙ ap (λ (q : QueueState). c.index_mut-slot.result.now.entries ++ kept_of q.marks c.min-count.result q.entries) same in
    let kept = kept_items c.self.invariant reads slot rest items refl in
    let due : c.move_batch-lost.new.accounts ≡ became_due (arc_value c.self.inside.plan) c.move_batch-lost.new.entries c.count_grab.new.self =
    rw c.deref-3.ensures at c.move_batch-lost.ensures.accounts
    ∙ ap (λ (q : QueueState). became_due (arc_value c.self.inside.plan) (kept_of q.marks c.min-count.result q.entries) c.count_grab.new.self) same
    ∙ ap (λ es. became_due (arc_value c.self.inside.plan) es c.count_grab.new.self)
    (sym (items ∙ ap (λ (es : List Entry). es ++ kept_of c.index_mut-queue.result.now.marks c.min-count.result c.index_mut-queue.result.now.entries) reads.idle)) in
    let account = account_after c.self.invariant reads c.losses-lost_count.result.0 c.losses-lost_count.result.1 c.losses-lost_count.ensures.lost (rw c.deref-2.ensures at c.losses-lost_count.ensures.guarded)
    c.move_batch-lost.new.entries kept c.count_grab.new.self c.in-Ok.ensures.ok c.move_batch-lost.new.accounts due in
    after_kept c.self.invariant reads slot rest items refl some c.move_batch-lost.new.accounts account

pub returns-clause-ok : goal.returns-clause-ok
returns-clause-ok c =
    let some : 0 < c.min-count.result = omega arith in
    let reads = reads_by c.self.view_is c.requires c.deref.ensures c.index_mut-slot.ensures.value (c.is_empty.ensures.0 c.if-not-is_empty.false)
    c.batch_of-queue.ensures.queue c.batch_of-queue.ensures.batch c.index_mut-queue.ensures.value c.len.ensures.value c.min-count.ensures in
    let same : c.losses-lost_count.new.queue ≡ c.index_mut-queue.result.now = c.losses-lost_count.ensures.same in
    let slot = record c.index_mut-slot.result.now { entries = c.move_batch-lost.new.entries } in
    let rest : c.move_batch-lost.new.queue ≡ record c.index_mut-queue.result.now { entries = drop c.min-count.result c.index_mut-queue.result.now.entries } = c.move_batch-lost.ensures.rest ∙ ap (λ (q : QueueState). record q { entries = drop c.min-count.result q.entries }) same in
    let items : c.move_batch-lost.new.entries ≡ c.index_mut-slot.result.now.entries ++ kept_of c.index_mut-queue.result.now.marks c.min-count.result c.index_mut-queue.result.now.entries =
    c.move_batch-lost.ensures.kept ∙ ap (λ (q : QueueState). c.index_mut-slot.result.now.entries ++ kept_of q.marks c.min-count.result q.entries) same in
    let kept = kept_items c.self.invariant reads slot rest items refl in
    let due : c.move_batch-lost.new.accounts ≡ became_due (arc_value c.self.inside.plan) c.move_batch-lost.new.entries c.count_grab.new.self =
    rw c.deref-3.ensures at c.move_batch-lost.ensures.accounts
    ∙ ap (λ (q : QueueState). became_due (arc_value c.self.inside.plan) (kept_of q.marks c.min-count.result q.entries) c.count_grab.new.self) same
    ∙ ap (λ es. became_due (arc_value c.self.inside.plan) es c.count_grab.new.self)
    (sym (items ∙ ap (λ (es : List Entry). es ++ kept_of c.index_mut-queue.result.now.marks c.min-count.result c.index_mut-queue.result.now.entries) reads.idle)) in
    let account = account_after c.self.invariant reads c.losses-lost_count.result.0 c.losses-lost_count.result.1 c.losses-lost_count.ensures.lost (rw c.deref-2.ensures at c.losses-lost_count.ensures.guarded)
    c.move_batch-lost.new.entries kept c.count_grab.new.self c.in-Ok.ensures.ok c.move_batch-lost.new.accounts due in
    let lost : c.move_batch-lost.result ≡ lost_of c.index_mut-queue.result.now.marks c.min-count.result c.index_mut-queue.result.now.entries = c.move_batch-lost.ensures.lost ∙ ap (λ (q : QueueState). lost_of q.marks c.min-count.result q.entries) same in
    let new = after_board c.self.invariant reads slot rest items refl c.move_batch-lost.new.accounts account in
    grab_answer c.self.invariant reads some c.move_batch-lost.result lost c.args.self.now _ c.self.view_is new
