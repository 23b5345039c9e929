use Rattle.std.proofs.Common.{◌∷◌, [], refl, sym, ap, ◌∙◌}
use Rattle.std.specs.Prelude.{not}
use Rattle.sy_board.specs.internal.Kept.{board_inside}
use Rattle.sy_board.specs.relay.Steps.{Cause, Event, Out}
use Rattle.sy_board.proofs.relay.InputSteps.{expire_seen, expired_state, hand_counts, lose_fails}
use Rattle.sy_board.proofs.relay.Orderly.{kept_by, same_board}
use Rattle.sy_board.proofs.relay.Seen.{hand_write}
use Rattle.sy_board.proofs.relay.board.Board.expire.Goals as goal

pub lose-lost-requires : goal.lose-lost-requires
lose-lost-requires c =
    let there = rw (← c.self.view_is) at c.requires.there in
    let some = c.is_none.ensures ∙ ap not c.if-is_none.false in
    record { counted = hand_counts c.self.inside c.self.invariant c.args.input c.args.hand there c.index.result.now (rw c.place-place.ensures at c.index.ensures) some }

pub returns-in-Err-clause-err : goal.returns-in-Err-clause-err
returns-in-Err-clause-err c = rw (← c.self.view_is) (
    let there = rw (← c.self.view_is) at c.requires.there in
    let b = c.self.inside in
    let i = c.args.input in
    let h = c.args.hand in
    let x = c.index_mut.result.now in
    let read = rw c.place-place.ensures at c.index_mut.ensures.value in
    let holds = rw (← c.self.view_is) at c.gate-hold.ensures in
    let full = (sym c.if-not-expires.false ∙ c.expires.ensures) in
    lose_fails b c.self.invariant i h there x read c.gate-hold.result holds full c.in-Err.fault (rw c.deref.ensures at c.in-Err.ensures.err))

pub invariant_of-self-2 : goal.invariant_of-self-2
invariant_of-self-2 c =
    let there = rw (← c.self.view_is) at c.requires.there in
    let b = c.self.inside in
    let i = c.args.input in
    let h = c.args.hand in
    let x = c.index_mut.result.now in
    let read = rw c.place-place.ensures at c.index_mut.ensures.value in
    let holds = rw (← c.self.view_is) at c.gate-hold.ensures in
    let full = (sym c.if-not-expires.false ∙ c.expires.ensures) in
    let seen = expire_seen b c.self.invariant i h there c.in-Ok.node x read c.in-Ok.ensures.node c.gate-hold.result holds full in
    let counted = (rw c.deref.ensures at c.in-Ok.ensures.accounts) ∙ sym seen.counted in
    record {
      marks = c.self.invariant.marks;
      orderly = rw (c.in-Ok.ensures.hand, hand_write, c.place-place.ensures)
          (kept_by (board_inside b) b.accounts c.self.invariant.orderly (Event.Expire i h) (expired_state b i h) (Out.Lost Cause.Expire c.in-Ok.node ∷ []) (c.in-Ok.node, seen.expires, refl) c.lose-lost.new.accounts counted);
    }

pub returns-clause-ok : goal.returns-clause-ok
returns-clause-ok c = rw (← c.self.view_is) (
    let there = rw (← c.self.view_is) at c.requires.there in
    let b = c.self.inside in
    let i = c.args.input in
    let h = c.args.hand in
    let x = c.index_mut.result.now in
    let read = rw c.place-place.ensures at c.index_mut.ensures.value in
    let holds = rw (← c.self.view_is) at c.gate-hold.ensures in
    let full = (sym c.if-not-expires.false ∙ c.expires.ensures) in
    let seen = expire_seen b c.self.invariant i h there c.in-Ok.node x read c.in-Ok.ensures.node c.gate-hold.result holds full in
    let counted = (rw c.deref.ensures at c.in-Ok.ensures.accounts) ∙ sym seen.counted in
    rw (c.in-Ok.ensures.hand, hand_write, c.place-place.ensures)
    (seen.expires, same_board (board_inside b) (Event.Expire i h) (expired_state b i h) (Out.Lost Cause.Expire c.in-Ok.node ∷ []) c.lose-lost.new.accounts counted))
