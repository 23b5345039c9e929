use Rattle.std.proofs.Common.{◌≡◌, ◌<◌, false, true, sym, refl, ap, ◌∙◌, arith, length}
use Rattle.sy_wire.specs.declared.class.Class.{Class}
use Rattle.sy_wire.specs.Messages.{Said}
use Rattle.sy_rules.specs.declared.lists.occurrence.Occurrence.TheVariants as occurrence
use Rattle.sy_rules.specs.Whole.{queue_for}
use Rattle.sy_marks.specs.Marks.{HoldIs, discards, is_delayed}
use Rattle.std.specs.Arc.{arc_value}
use Rattle.sy_board.specs.relay.Boards.{IsForPost, guard_of}
use Rattle.sy_board.specs.relay.Plans.{post_flow}
use Rattle.sy_board.specs.relay.Steps.{Cause}
use Rattle.sy_board.specs.relay.Totals.{is_guarded_loss}
use Rattle.sy_board.specs.internal.Kept.{board_inside}
use Rattle.sy_board.proofs.relay.JobSteps.{IsTurn, slot_in, turn_of}
use Rattle.sy_board.proofs.relay.Posting.{IsListQueue, free_by, held_by, kept_back, left_to_count, list_queue, no_post, post_discarded, post_discarded_full, post_discarded_kept, post_done, post_done_kept, post_full, post_held, queue_there}
use Rattle.sy_board.proofs.relay.board.Board.post.Goals as goal
use Rattle.sy_board.proofs.relay.board.Board.post.Goals.{In-Some, After-discards, After-holds, After-loses_guarded-guarded}

turn : (c : In-Some) → IsTurn c.self.inside c.args.worker c.index_mut-slot.result.now (occurrence.Post c.in-Some.list) c.in-Some.left
turn c = turn_of c.self.inside c.args.self.now c.args.worker c.index_mut-slot.result.now c.deref.result.now (occurrence.Post c.in-Some.list) c.in-Some.left
    c.self.view_is c.self.invariant c.requires.there c.index_mut-slot.ensures.value c.deref.ensures c.in-Some.ensures.some

made : (c : In-Some) → IsForPost (board_inside c.self.inside) c.args.worker c.args.node
made c = rw (← c.self.view_is) at c.requires.made

queue : (c : After-discards) → IsListQueue c.self.inside c.in-Some.list c.queue_of_list-number.result c.index_mut-queue.result.now
queue c = list_queue c.self.inside c.in-Some.list c.queue_of_list-number.result c.index_mut-queue.result.now c.self.invariant (rw c.deref-2.ensures at c.queue_of_list-number.ensures)
    c.index_mut-queue.ensures.value

judged : (c : After-discards) → discards c.index_mut-queue.result.now.marks c.args.node.message.class.severity (length c.index_mut-queue.result.now.entries) ≡ c.discards.result
judged c =
    let severity : c.class.result.severity ≡ c.args.node.message.class.severity =
    ap (λ (x : Class). x.severity) (c.class.ensures ∙ ap (λ (x : Said). x.class) (c.deref-4.ensures ∙ c.message.ensures.value)) in
    sym (rw severity at c.discards.ensures)

marked : (c : After-loses_guarded-guarded) (turn : IsTurn c.self.inside c.args.worker c.index_mut-slot.result.now (occurrence.Post c.in-Some.list) c.in-Some.left)
    → c.loses_guarded-guarded.result ≡ is_guarded_loss (arc_value c.self.inside.plan) (guard_of (board_inside c.self.inside)) (Cause.Post c.in-Some.list) turn.next.entry
marked c turn = rw c.deref-then-discards.ensures at (c.loses_guarded-guarded.ensures turn.next.entry turn.next.others turn.next.held)

pub returns-in_default-clause-err : goal.returns-in_default-clause-err
returns-in_default-clause-err c = rw (← c.self.view_is)
    (no_post c.self.inside c.args.worker c.index_mut-slot.result.now
    (slot_in c.self.inside c.args.self.now c.args.worker c.index_mut-slot.result.now c.self.view_is c.self.invariant c.requires.there c.index_mut-slot.ensures.value)
    (rw c.deref.ensures at c.in_default.ensures.none))

pub index_mut-queue-requires : goal.index_mut-queue-requires
index_mut-queue-requires c =
    let there = queue_there c.self.inside c.in-Some.list c.queue_of_list-number.result c.self.invariant (rw c.deref-2.ensures at c.queue_of_list-number.ensures) in
    omega (arith, there, c.self.inside.queues.ok.0)

-- ---- discarded

pub count_lost_post-requires : goal.count_lost_post-requires
count_lost_post-requires c = left_to_count (turn (goal.at.count_lost_post-requires c).In-Some)

pub invariant_of-self-in_default-count_lost_post :
    goal.invariant_of-self-in_default-count_lost_post
invariant_of-self-in_default-count_lost_post c =
    let before = goal.at.invariant_of-self-in_default-count_lost_post c in
    kept_back (turn before.In-Some) (queue before.After-discards) c.index_mut-queue.result.now c.count_lost_post.new.self refl c.in_default-count_lost_post.ensures.unchanged

pub returns-in_default-count_lost_post-clause-err :
    goal.returns-in_default-count_lost_post-clause-err
returns-in_default-count_lost_post-clause-err c =
    let before = goal.at.returns-in_default-count_lost_post-clause-err c in
    rw (← c.self.view_is) (post_discarded_full (turn before.In-Some) (queue before.After-discards) (made before.In-Some) (marked before.After-loses_guarded-guarded (turn before.In-Some))
    (judged before.After-discards ∙ c.if-discards.true) c.in_default-count_lost_post.ensures.full)

pub invariant_of-self-then-discards : goal.invariant_of-self-then-discards
invariant_of-self-then-discards c =
    let before = goal.at.invariant_of-self-then-discards c in
    post_discarded_kept (turn before.In-Some) (queue before.After-discards) (made before.In-Some) (record { entries = c.advance.ensures.entries; failures = c.advance.ensures.failures })
    (marked before.After-loses_guarded-guarded (turn before.In-Some)) c.in-Ok.ensures.ok (judged before.After-discards ∙ c.if-discards.true)

pub returns-then-discards-clause-ok : goal.returns-then-discards-clause-ok
returns-then-discards-clause-ok c =
    let before = goal.at.returns-then-discards-clause-ok c in
    rw (← c.self.view_is) (post_discarded (turn before.In-Some) (queue before.After-discards) (made before.In-Some)
    (record { entries = c.advance.ensures.entries; failures = c.advance.ensures.failures }) (marked before.After-loses_guarded-guarded (turn before.In-Some)) c.in-Ok.ensures.ok (judged before.After-discards ∙ c.if-discards.true))

-- ---- not discarded

-- what the gate says
gate : (c : After-holds) → HoldIs c.gate.result (post_flow (arc_value c.self.inside.plan) (queue_for (arc_value c.self.inside.plan) c.in-Some.list)) c.index_mut-queue.result.now.marks
    (length c.index_mut-queue.result.now.entries)
gate c =
    let number = rw c.deref-2.ensures at c.queue_of_list-number.ensures in
    let flow = rw (c.deref-3.ensures, number) at c.post_flow-flow.ensures in
    rw flow at c.gate.ensures

free : (c : After-holds) → c.holds.result ≡ false
    → (length c.index_mut-queue.result.now.entries < c.index_mut-queue.result.now.marks.size)
    × (is_delayed (post_flow (arc_value c.self.inside.plan) (queue_for (arc_value c.self.inside.plan) c.in-Some.list)) c.index_mut-queue.result.now.marks
    (length c.index_mut-queue.result.now.entries) ≡ false)
free c so = free_by _ c.index_mut-queue.result.now.marks (length c.index_mut-queue.result.now.entries) c.gate.result (gate c) (sym c.holds.ensures ∙ so)

pub invariant_of-self-then-holds : goal.invariant_of-self-then-holds
invariant_of-self-then-holds c =
    let before = goal.at.invariant_of-self-then-holds c in
    kept_back (turn before.In-Some) (queue before.After-discards) c.index_mut-queue.result.now c.self.inside.accounts refl refl

pub returns-then-holds-clause-ok : goal.returns-then-holds-clause-ok
returns-then-holds-clause-ok c =
    let before = goal.at.returns-then-holds-clause-ok c in
    rw (← c.self.view_is) (post_held (turn before.In-Some) (queue before.After-discards) (made before.In-Some) (judged before.After-discards ∙ c.if-discards.false)
    (held_by _ c.index_mut-queue.result.now.marks (length c.index_mut-queue.result.now.entries) c.gate.result (gate before.After-holds) (sym c.holds.ensures ∙ c.if-holds.true)))

pub invariant_of-self-then-not-has_room_for_post :
    goal.invariant_of-self-then-not-has_room_for_post
invariant_of-self-then-not-has_room_for_post c =
    let before = goal.at.invariant_of-self-then-not-has_room_for_post c in
    kept_back (turn before.In-Some) (queue before.After-discards) c.index_mut-queue.result.now c.self.inside.accounts refl refl

pub returns-then-not-has_room_for_post-clause-err :
    goal.returns-then-not-has_room_for_post-clause-err
returns-then-not-has_room_for_post-clause-err c =
    let before = goal.at.returns-then-not-has_room_for_post-clause-err c in
    rw (← c.self.view_is) (post_full (turn before.In-Some) (queue before.After-discards) (made before.In-Some) (judged before.After-discards ∙ c.if-discards.false)
    (free before.After-holds c.if-holds.false)
    (λ fits. let reported : false ≡ true = sym c.if-not-has_room_for_post.true ∙ c.has_room_for_post.ensures.1 fits in cc))

pub count_post-requires-clause-left : goal.count_post-requires-clause-left
count_post-requires-clause-left c = left_to_count (turn (goal.at.count_post-requires-clause-left c).In-Some)

pub invariant_of-self-2 : goal.invariant_of-self-2
invariant_of-self-2 c =
    let before = goal.at.invariant_of-self-2 c in
    post_done_kept (turn before.In-Some) (queue before.After-discards) (made before.In-Some) (record { entries = c.advance-2.ensures.entries; failures = c.advance-2.ensures.failures })
    c.push.ensures c.count_post.ensures (judged before.After-discards ∙ c.if-discards.false) (free before.After-holds c.if-holds.false)

pub returns-clause-ok : goal.returns-clause-ok
returns-clause-ok c =
    let before = goal.at.returns-clause-ok c in
    rw (← c.self.view_is) (post_done (turn before.In-Some) (queue before.After-discards) (made before.In-Some)
    (record { entries = c.advance-2.ensures.entries; failures = c.advance-2.ensures.failures }) c.push.ensures c.count_post.ensures
    (judged before.After-discards ∙ c.if-discards.false) (free before.After-holds c.if-holds.false))
