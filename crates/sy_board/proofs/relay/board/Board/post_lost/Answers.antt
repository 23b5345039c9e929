use Rattle.std.proofs.Common.{◌≡◌, sym, ◌∙◌, arith, length}
use Rattle.sy_rules.specs.declared.lists.occurrence.Occurrence.TheVariants as occurrence
use Rattle.sy_rules.specs.Whole.{queue_for}
use Rattle.sy_marks.specs.declared.marks.Flow.{Flow}
use Rattle.sy_marks.specs.Marks.{HoldIs}
use Rattle.std.specs.Arc.{arc_value}
use Rattle.sy_board.specs.internal.Jobs.{may_lose}
use Rattle.sy_board.specs.internal.Kept.{board_inside}
use Rattle.sy_board.specs.relay.Boards.{guard_of}
use Rattle.sy_board.specs.relay.Plans.{post_flow}
use Rattle.sy_board.specs.relay.Steps.{Cause}
use Rattle.sy_board.specs.relay.Totals.{is_guarded_loss}
use Rattle.sy_board.proofs.relay.JobSteps.{IsTurn, slot_in, turn_of}
use Rattle.sy_board.proofs.relay.Posting.{IsListQueue, left_to_count, list_queue, no_post, post_lost, post_lost_full, post_lost_kept, post_not_lost, queue_there}
use Rattle.sy_board.proofs.relay.board.Board.post_lost.Goals as goal
use Rattle.sy_board.proofs.relay.board.Board.post_lost.Goals.{In-Some, After-may_be_lost, After-loses_guarded-guarded}

turn : (c : In-Some) → IsTurn c.self.inside c.args.worker c.index_mut-slot.result.now (occurrence.Post c.in-Some.list) c.in-Some.left
turn c = turn_of c.self.inside c.args.self.now c.args.worker c.index_mut-slot.result.now c.deref.result.now (occurrence.Post c.in-Some.list) c.in-Some.left
    c.self.view_is c.self.invariant c.requires c.index_mut-slot.ensures.value c.deref.ensures c.in-Some.ensures.some

queue : (c : After-may_be_lost) → IsListQueue c.self.inside c.in-Some.list c.queue_of_list-number.result c.index.result.now
queue c = list_queue c.self.inside c.in-Some.list c.queue_of_list-number.result c.index.result.now c.self.invariant (rw c.deref-2.ensures at c.queue_of_list-number.ensures) c.index.ensures

abbrev waits : After-may_be_lost → Flow
waits c = post_flow (arc_value c.self.inside.plan) (queue_for (arc_value c.self.inside.plan) c.in-Some.list)

flow_is : (c : After-may_be_lost) → c.post_flow-flow.result ≡ waits c
flow_is c = let number = rw c.deref-2.ensures at c.queue_of_list-number.ensures in rw (c.deref-3.ensures, number) at c.post_flow-flow.ensures

-- what the gate says
gate : (c : After-may_be_lost) → HoldIs c.gate.result (waits c) c.index.result.now.marks (length c.index.result.now.entries)
gate c = rw (flow_is c) at c.gate.ensures

may : (c : After-may_be_lost) → c.may_be_lost.result ≡ may_lose c.args.cause (waits c) c.gate.result
may c = rw (flow_is c) at c.may_be_lost.ensures

marked : (c : After-loses_guarded-guarded) (turn : IsTurn c.self.inside c.args.worker c.index_mut-slot.result.now (occurrence.Post c.in-Some.list) c.in-Some.left)
    → c.loses_guarded-guarded.result ≡ is_guarded_loss (arc_value c.self.inside.plan) (guard_of (board_inside c.self.inside)) (Cause.Post c.in-Some.list) turn.next.entry
marked c turn = rw c.deref-4.ensures at (c.loses_guarded-guarded.ensures turn.next.entry turn.next.others turn.next.held)

pub returns-in_default-clause-err : goal.returns-in_default-clause-err
returns-in_default-clause-err c = rw (← c.self.view_is)
    (no_post c.self.inside c.args.worker c.index_mut-slot.result.now
    (slot_in c.self.inside c.args.self.now c.args.worker c.index_mut-slot.result.now c.self.view_is c.self.invariant c.requires c.index_mut-slot.ensures.value)
    (rw c.deref.ensures at c.in_default.ensures.none))

pub index-requires : goal.index-requires
index-requires c =
    let there = queue_there c.self.inside c.in-Some.list c.queue_of_list-number.result c.self.invariant (rw c.deref-2.ensures at c.queue_of_list-number.ensures) in
    omega (arith, there, c.self.inside.queues.ok.0)

pub returns-then-not-may_be_lost-clause-err :
    goal.returns-then-not-may_be_lost-clause-err
returns-then-not-may_be_lost-clause-err c =
    let before = goal.at.returns-then-not-may_be_lost-clause-err c in
    rw (← c.self.view_is) (post_not_lost (turn before.In-Some) (queue before.After-may_be_lost) c.args.cause c.gate.result (gate before.After-may_be_lost)
    (sym (may before.After-may_be_lost) ∙ c.if-not-may_be_lost.true))

pub count_lost_post-requires : goal.count_lost_post-requires
count_lost_post-requires c = left_to_count (turn (goal.at.count_lost_post-requires c).In-Some)

pub returns-in_default-count_lost_post-clause-err :
    goal.returns-in_default-count_lost_post-clause-err
returns-in_default-count_lost_post-clause-err c =
    let before = goal.at.returns-in_default-count_lost_post-clause-err c in
    rw (← c.self.view_is) (post_lost_full (turn before.In-Some) (queue before.After-may_be_lost) c.args.cause c.gate.result (gate before.After-may_be_lost)
    (sym (may before.After-may_be_lost) ∙ c.if-not-may_be_lost.false) (marked before.After-loses_guarded-guarded (turn before.In-Some))
    c.in_default-count_lost_post.ensures.full)

pub invariant_of-self-2 : goal.invariant_of-self-2
invariant_of-self-2 c =
    let before = goal.at.invariant_of-self-2 c in
    post_lost_kept (turn before.In-Some) (queue before.After-may_be_lost) c.args.cause c.gate.result (gate before.After-may_be_lost)
    (sym (may before.After-may_be_lost) ∙ c.if-not-may_be_lost.false) (marked before.After-loses_guarded-guarded (turn before.In-Some))
    (record { entries = c.advance.ensures.entries; failures = c.advance.ensures.failures }) c.in-Ok.ensures.ok

pub returns-clause-ok : goal.returns-clause-ok
returns-clause-ok c =
    let before = goal.at.returns-clause-ok c in
    rw (← c.self.view_is) (post_lost (turn before.In-Some) (queue before.After-may_be_lost) c.args.cause c.gate.result (gate before.After-may_be_lost)
    (sym (may before.After-may_be_lost) ∙ c.if-not-may_be_lost.false) (marked before.After-loses_guarded-guarded (turn before.In-Some))
    (record { entries = c.advance.ensures.entries; failures = c.advance.ensures.failures }) c.in-Ok.ensures.ok)
