use Rattle.std.proofs.Common.{◌≡◌, ℕ, ◌+◌, ◌<◌, Bool, List, [], ◌∷◌, ◌++◌, length, get_or, take, drop, subst, sym, ap, ◌∙◌, arith}
use Rattle.std.proofs.lemmas.List.{take_all, take_at, take_more}
use Rattle.sy_wire.specs.declared.class.Class.{Class}
use Rattle.sy_board.specs.relay.Totals.{Pairs}
use Rattle.sy_board.specs.internal.Guarding.{IsTable, marked}
use Rattle.sy_board.proofs.relay.GuardTables.{is_marked, none_marked}
use Rattle.sy_board.proofs.relay.guard.table_of.Goals as goal

one_more : (pairs : Pairs) (i : ℕ) (pair : ℕ × Class) (table new : List Bool) (size : ℕ) → i < length pairs → pair ≡ get_or pairs i pair → size ≡ length table → new ≡ marked table pair.0 pair.1
    → IsTable (take i pairs) table → IsTable (take (i + 1) pairs) (take size (new ++ drop (length new) table))
one_more pairs i pair table new size l is n e so_far =
    let next = is_marked (take i pairs) table pair.0 pair.1 so_far in
    let pairs_more : take i pairs ++ pair ∷ [] ≡ take (i + 1) pairs = sym (take_more pairs i pair l ∙ ap (λ p. take i pairs ++ p ∷ []) (sym is)) in
    let long : length new ≡ size = let a = ap length e in let b = next.size in let c = so_far.size in omega (arith, a, b, c) in
    subst (λ t. IsTable (take (i + 1) pairs) t) (sym (take_at new (drop (length new) table) size long ∙ e))
    (subst (λ ps. IsTable ps (marked table pair.0 pair.1)) pairs_more next)

pub loop-input-init : goal.loop-input-init
loop-input-init c = subst (IsTable []) (sym c.in_ok-table.ensures) none_marked

pub loop-input-preserved : goal.loop-input-preserved
loop-input-preserved c =
    one_more c.args.pairs.now c.loop-input.input-index c.loop-input-item.result c.loop-input.table.items c.mark.new.table c.loop-input.table.len c.loop-input-test.true c.loop-input-item.is c.loop-input.table.ok.0
    (c.mark.ensures ∙ ap (λ t. marked t c.loop-input-item.result.0 c.loop-input-item.result.1) c.deref_mut.ensures.value)
    c.loop-input.invariant

pub returns : goal.returns
returns c = subst (λ ps. IsTable ps c.loop-input.table.items) (take_all c.loop-input.input-index c.args.pairs.now c.loop-input-test.false) c.loop-input.invariant
