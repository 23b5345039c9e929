use Rattle.std.proofs.Common.{◌+◌, ◌*◌, ◌++◌, [], option_to_list, refl, sym, ap, ◌∙◌}
use Rattle.std.specs.Prelude.{not}
use Rattle.std.proofs.lemmas.List.{map-set}
use Rattle.sy_marks.specs.Marks.{QueueState}
use Rattle.sy_board.specs.internal.Kept.{board_inside}
use Rattle.sy_board.specs.relay.Plans.{queue_of_input}
use Rattle.sy_board.specs.relay.Steps.{Event}
use Rattle.sy_board.proofs.relay.InputSteps.{bring_fails, enter_seen, entered_state, hand_counts, hand_in_table, input_queue_seen, queue_in_table, room_seen}
use Rattle.sy_board.proofs.relay.Orderly.{kept_by, same_board}
use Rattle.sy_board.proofs.relay.Seen.{entries_read, hand_write, map_stays, read_same}
use Rattle.sy_board.proofs.relay.board.Board.enter.Goals as goal

pub bring-brought-requires-clause-room : goal.bring-brought-requires-clause-room
bring-brought-requires-clause-room c =
    let there = rw (← c.self.view_is) at c.requires.there in
    let b = c.self.inside in
    let i = c.args.input in
    let h = c.args.hand in
    let x = c.index.result.now in
    let read = rw c.place-place.ensures at c.index.ensures in
    let some = c.is_none.ensures ∙ ap not c.if-is_none.false in
    let holds = rw (← c.self.view_is) at c.gate-hold.ensures in
    let free = sym c.holds.ensures ∙ c.if-holds.false in
    let queue = input_queue_seen b c.self.invariant i there.0 c.way_of-queue.result.1 c.index_mut.result.now (rw c.deref.ensures at c.way_of-queue.ensures.queue) c.index_mut.ensures.value in
    room_seen b i c.index_mut.result.now queue c.gate-hold.result holds free

pub bring-brought-requires-clause-counted : goal.bring-brought-requires-clause-counted
bring-brought-requires-clause-counted c =
    let there = rw (← c.self.view_is) at c.requires.there in
    let b = c.self.inside in
    let i = c.args.input in
    let h = c.args.hand in
    let x = c.index.result.now in
    let read = rw c.place-place.ensures at c.index.ensures in
    let some = c.is_none.ensures ∙ ap not c.if-is_none.false in
    let holds = rw (← c.self.view_is) at c.gate-hold.ensures in
    let free = sym c.holds.ensures ∙ c.if-holds.false in
    hand_counts b c.self.invariant i h there x read some

pub returns-in-Err-clause-err : goal.returns-in-Err-clause-err
returns-in-Err-clause-err c = rw (← c.self.view_is) (
    let there = rw (← c.self.view_is) at c.requires.there in
    let b = c.self.inside in
    let i = c.args.input in
    let h = c.args.hand in
    let x = c.index.result.now in
    let read = rw c.place-place.ensures at c.index.ensures in
    let some = c.is_none.ensures ∙ ap not c.if-is_none.false in
    let holds = rw (← c.self.view_is) at c.gate-hold.ensures in
    let free = sym c.holds.ensures ∙ c.if-holds.false in
    let seen = enter_seen b c.self.invariant i h there x read some c.gate-hold.result holds free in
    bring_fails b i h x seen c.in-Err.fault c.in-Err.ensures.err)

pub invariant_of-self-2 : goal.invariant_of-self-2
invariant_of-self-2 c =
    let there = rw (← c.self.view_is) at c.requires.there in
    let b = c.self.inside in
    let i = c.args.input in
    let h = c.args.hand in
    let x = c.index.result.now in
    let read = rw c.place-place.ensures at c.index.ensures in
    let some = c.is_none.ensures ∙ ap not c.if-is_none.false in
    let holds = rw (← c.self.view_is) at c.gate-hold.ensures in
    let free = sym c.holds.ensures ∙ c.if-holds.false in
    let seen = enter_seen b c.self.invariant i h there x read some c.gate-hold.result holds free in
    let k = queue_of_input (board_inside b).plan i in
    let within = hand_in_table b c.self.invariant i h there in
    let queue = queue_in_table b c.self.invariant i there.0 in
    let is = rw c.deref.ensures at c.way_of-queue.ensures.queue in
    let at_k = rw is at c.index_mut.ensures.value in
    let old = entries_read b.queues.items k c.index_mut.result.now queue at_k in
    let same = read_same b.hands.items (64 * i + h) x c.index_mut-2.result.now within read (rw c.place-place.ensures at c.index_mut-2.ensures.value) in
    let counted = c.in_default.ensures.accounts ∙ sym seen.counted in
    record {
      marks = rw (is, c.in_default.ensures.queue) (map_stays (λ (q : QueueState). q.marks) b.queues.items k (record c.index_mut.result.now { entries = c.index_mut.result.now.entries ++ option_to_list c.index_mut-2.result.now }) c.index_mut.result.now queue at_k refl ∙ c.self.invariant.marks);
      orderly = rw (c.in_default.ensures.hand, c.in_default.ensures.queue, hand_write, map-set (λ (q : QueueState). q.entries), c.place-place.ensures, is, same, ← old)
          (kept_by (board_inside b) b.accounts c.self.invariant.orderly (Event.Enter i h) (entered_state b i h x) [] (seen.node, seen.enters, refl) c.bring-brought.new.accounts counted);
    }

pub returns-clause-ok : goal.returns-clause-ok
returns-clause-ok c = rw (← c.self.view_is) (
    let there = rw (← c.self.view_is) at c.requires.there in
    let b = c.self.inside in
    let i = c.args.input in
    let h = c.args.hand in
    let x = c.index.result.now in
    let read = rw c.place-place.ensures at c.index.ensures in
    let some = c.is_none.ensures ∙ ap not c.if-is_none.false in
    let holds = rw (← c.self.view_is) at c.gate-hold.ensures in
    let free = sym c.holds.ensures ∙ c.if-holds.false in
    let seen = enter_seen b c.self.invariant i h there x read some c.gate-hold.result holds free in
    let k = queue_of_input (board_inside b).plan i in
    let within = hand_in_table b c.self.invariant i h there in
    let queue = queue_in_table b c.self.invariant i there.0 in
    let is = rw c.deref.ensures at c.way_of-queue.ensures.queue in
    let at_k = rw is at c.index_mut.ensures.value in
    let old = entries_read b.queues.items k c.index_mut.result.now queue at_k in
    let same = read_same b.hands.items (64 * i + h) x c.index_mut-2.result.now within read (rw c.place-place.ensures at c.index_mut-2.ensures.value) in
    let counted = c.in_default.ensures.accounts ∙ sym seen.counted in
    rw (c.in_default.ensures.hand, c.in_default.ensures.queue, hand_write, map-set (λ (q : QueueState). q.entries), c.place-place.ensures, is, same, ← old)
    (seen.node, seen.enters, same_board (board_inside b) (Event.Enter i h) (entered_state b i h x) [] c.bring-brought.new.accounts counted))
