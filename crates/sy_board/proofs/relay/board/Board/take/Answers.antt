use Rattle.std.proofs.Common.{[], refl, sym, ◌∙◌, false, true, subst}
use Rattle.sy_board.specs.internal.Kept.{board_inside}
use Rattle.sy_board.specs.relay.Boards.{Fits}
use Rattle.sy_board.specs.relay.Steps.{Event}
use Rattle.sy_board.proofs.relay.InputSteps.{input_queue_seen, take_seen, taken_outs, taken_state}
use Rattle.sy_board.proofs.relay.Orderly.{kept_by, same_board}
use Rattle.sy_board.proofs.relay.Seen.{hand_write}
use Rattle.sy_board.proofs.relay.board.Board.take.Goals as goal

pub returns-in_default-clause-err : goal.returns-in_default-clause-err
returns-in_default-clause-err c = rw (← c.self.view_is) (
    let there = rw (← c.self.view_is) at c.requires.there in
    let made = rw (← c.self.view_is) at c.requires.made in
    let b = c.self.inside in
    let queue = input_queue_seen b c.self.invariant c.args.input there.0 c.way_of-queue.result.1 c.index-2.result.now (rw c.deref.ensures at c.way_of-queue.ensures.queue) c.index-2.ensures in
    let seen = take_seen b c.self.invariant c.args.input c.args.hand c.args.node there made c.index.result.now (rw c.place-place.ensures at c.index.ensures) (sym c.is_some.ensures ∙ c.if-is_some.false)
    c.index-2.result.now queue c.is_discarded-lost.result c.is_guarded_loss-guarded.result c.is_discarded-lost.ensures (rw c.deref-2.ensures at c.is_guarded_loss-guarded.ensures) in
    (_, _, seen.takes, λ fits. c.in_default.ensures.full (subst Fits seen.counted fits)))

pub returns-then-lost-clause-ok : goal.returns-then-lost-clause-ok
returns-then-lost-clause-ok c = rw (← c.self.view_is) (
    let there = rw (← c.self.view_is) at c.requires.there in
    let made = rw (← c.self.view_is) at c.requires.made in
    let b = c.self.inside in
    let queue = input_queue_seen b c.self.invariant c.args.input there.0 c.way_of-queue.result.1 c.index-2.result.now (rw c.deref.ensures at c.way_of-queue.ensures.queue) c.index-2.ensures in
    let seen = take_seen b c.self.invariant c.args.input c.args.hand c.args.node there made c.index.result.now (rw c.place-place.ensures at c.index.ensures) (sym c.is_some.ensures ∙ c.if-is_some.false)
    c.index-2.result.now queue c.is_discarded-lost.result c.is_guarded_loss-guarded.result c.is_discarded-lost.ensures (rw c.deref-2.ensures at c.is_guarded_loss-guarded.ensures) in
    let takes = rw c.if-lost.true at seen.takes in
    let same = rw c.if-lost.true at (same_board (board_inside b) (Event.Take c.args.input c.args.hand c.args.node) (taken_state b c.args.input c.args.hand c.args.node c.is_discarded-lost.result)
    (taken_outs c.args.node c.is_discarded-lost.result) c.count_take.new.self (c.in-Ok.ensures.ok ∙ sym seen.counted)) in
    (refl, takes, same))

pub invariant_of-self-2 : goal.invariant_of-self-2
invariant_of-self-2 c =
    let there = rw (← c.self.view_is) at c.requires.there in
    let made = rw (← c.self.view_is) at c.requires.made in
    let b = c.self.inside in
    let queue = input_queue_seen b c.self.invariant c.args.input there.0 c.way_of-queue.result.1 c.index-2.result.now (rw c.deref.ensures at c.way_of-queue.ensures.queue) c.index-2.ensures in
    let seen = take_seen b c.self.invariant c.args.input c.args.hand c.args.node there made c.index.result.now (rw c.place-place.ensures at c.index.ensures) (sym c.is_some.ensures ∙ c.if-is_some.false)
    c.index-2.result.now queue c.is_discarded-lost.result c.is_guarded_loss-guarded.result c.is_discarded-lost.ensures (rw c.deref-2.ensures at c.is_guarded_loss-guarded.ensures) in
    let takes = rw c.if-lost.false at seen.takes in
    let counted = rw c.if-lost.false at (c.in-Ok.ensures.ok ∙ sym seen.counted) in
    record {
      marks = c.self.invariant.marks;
      orderly = rw (hand_write, c.place-place.ensures) (kept_by (board_inside b) b.accounts c.self.invariant.orderly (Event.Take c.args.input c.args.hand c.args.node)
          (taken_state b c.args.input c.args.hand c.args.node false) [] (false, takes, refl) c.count_take.new.self counted);
    }

pub returns-clause-ok : goal.returns-clause-ok
returns-clause-ok c = rw (← c.self.view_is) (
    let there = rw (← c.self.view_is) at c.requires.there in
    let made = rw (← c.self.view_is) at c.requires.made in
    let b = c.self.inside in
    let queue = input_queue_seen b c.self.invariant c.args.input there.0 c.way_of-queue.result.1 c.index-2.result.now (rw c.deref.ensures at c.way_of-queue.ensures.queue) c.index-2.ensures in
    let seen = take_seen b c.self.invariant c.args.input c.args.hand c.args.node there made c.index.result.now (rw c.place-place.ensures at c.index.ensures) (sym c.is_some.ensures ∙ c.if-is_some.false)
    c.index-2.result.now queue c.is_discarded-lost.result c.is_guarded_loss-guarded.result c.is_discarded-lost.ensures (rw c.deref-2.ensures at c.is_guarded_loss-guarded.ensures) in
    let takes = rw c.if-lost.false at seen.takes in
    let same = rw c.if-lost.false at (same_board (board_inside b) (Event.Take c.args.input c.args.hand c.args.node) (taken_state b c.args.input c.args.hand c.args.node c.is_discarded-lost.result)
    (taken_outs c.args.node c.is_discarded-lost.result) c.count_take.new.self (c.in-Ok.ensures.ok ∙ sym seen.counted)) in
    rw (hand_write, c.place-place.ensures) (takes, same))

pub invariant_of-self-then-lost : goal.invariant_of-self-then-lost
invariant_of-self-then-lost c =
    let there = rw (← c.self.view_is) at c.requires.there in
    let made = rw (← c.self.view_is) at c.requires.made in
    let b = c.self.inside in
    let queue = input_queue_seen b c.self.invariant c.args.input there.0 c.way_of-queue.result.1 c.index-2.result.now (rw c.deref.ensures at c.way_of-queue.ensures.queue) c.index-2.ensures in
    let seen = take_seen b c.self.invariant c.args.input c.args.hand c.args.node there made c.index.result.now (rw c.place-place.ensures at c.index.ensures) (sym c.is_some.ensures ∙ c.if-is_some.false)
    c.index-2.result.now queue c.is_discarded-lost.result c.is_guarded_loss-guarded.result c.is_discarded-lost.ensures (rw c.deref-2.ensures at c.is_guarded_loss-guarded.ensures) in
    let takes = rw c.if-lost.true at seen.takes in
    let counted = rw c.if-lost.true at (c.in-Ok.ensures.ok ∙ sym seen.counted) in
    record {
      marks = c.self.invariant.marks;
      orderly = kept_by (board_inside b) b.accounts c.self.invariant.orderly (Event.Take c.args.input c.args.hand c.args.node)
          (taken_state b c.args.input c.args.hand c.args.node true) (taken_outs c.args.node true) (true, takes, refl) c.count_take.new.self counted;
    }
