-- What the steps Take, Enter and Expire make of an account.
use Rattle.std.proofs.Common.{◌≡◌, ℕ, ◌+◌, ◌*◌, ◌<◌, Bool, true, false, if◌then◌else◌, [], ◌∷◌, ◌++◌, length, length-append, refl, sym, subst, ap, ◌∙◌, arith}
use Rattle.std.specs.Prelude.{◌&&◌}
use Rattle.sy_chain.specs.Entries.{Entry}
use Rattle.sy_board.specs.relay.Boards.{Account, BoardState, account_of, guard_of, stepped}
use Rattle.sy_board.specs.relay.Cells.{Cell, RelayState, at, hand, set_cell}
use Rattle.sy_board.specs.relay.Plans.{queue_of_input}
use Rattle.sy_board.specs.relay.Steps.{Cause, Enters, Event, Expires, IsHand, Out, Takes, if_so}
use Rattle.sy_board.specs.relay.Totals.{Totals, in_hands, is_guarded}
use Rattle.sy_board.specs.internal.Counting.{after_enter, after_expire, after_take, one_if}
use Rattle.sy_board.specs.internal.Kept.{IsOrderly}
use Rattle.sy_board.proofs.relay.AccountLaws.{hand_sum, queue_sum}
use Rattle.sy_board.proofs.relay.There.{hand_there, input_queue_there}

abbrev account : Totals → ℕ → ℕ → Account
account totals hands queues = record { totals = totals; held_in_hands = hands; held_in_queues = queues }

same_account : (t u : Totals) (h i q r : ℕ) → t ≡ u → h ≡ i → q ≡ r → account t h q ≡ account u i r
same_account t u h i q r e f g = ap (λ x. account x h q) e ∙ ap (λ x. account u x q) f ∙ ap (λ x. account u i x) g

abbrev lost_more : Totals → ℕ → Totals
lost_more t more = record t { lost_in = t.lost_in + 1; guarded_lost = t.guarded_lost + more }

abbrev guarded_as : Totals → ℕ → Totals
guarded_as t lost = record t { guarded_lost = lost }

zero : (n : ℕ) → n + 0 ≡ n
zero n = omega arith

-- one loss, counted where it is guarded
one_loss : (b : Bool) → (if b then 1 else 0) + 0 ≡ one_if b
one_loss b = zero (one_if b)

hand_within : (old : BoardState) (a : Account) → IsOrderly old a → (i h : ℕ) → IsHand old.plan i h → 64 * i + h < length old.state.hands
hand_within old a o i h there = hand_there old.plan old.state i h o.shaped there

pub account_take : (old : BoardState) (a : Account) → IsOrderly old a → (i h : ℕ) (node : Entry) (lost : Bool) (new : RelayState) → Takes old.plan old.state i h node lost new
    → account_of (stepped old (Event.Take i h node) new (if_so lost (Out.Lost Cause.Take node))) ≡ after_take lost (lost && is_guarded old.plan (guard_of old) node) (account_of old)
account_take old a o i h node true new takes = subst (λ x. account_of (stepped old (Event.Take i h node) x (Out.Lost Cause.Take node ∷ [])) ≡ after_take true (is_guarded old.plan (guard_of old) node) (account_of old)) (sym takes.after)
    (same_account _ _ _ _ _ _
    (ap (λ (x : ℕ). lost_more (record old.totals { taken = old.totals.taken + 1 }) x) (one_loss (is_guarded old.plan (guard_of old) node)))
    (sym (zero (in_hands old.state))) refl)
account_take old a o i h node false new takes = subst (λ x. account_of (stepped old (Event.Take i h node) x []) ≡ after_take false false (account_of old)) (sym takes.after)
    (let s = hand_sum old.state (64 * i + h) (node ∷ []) (hand_within old a o i h takes.there) in
    let f = ap length takes.free in
    same_account _ _ _ _ _ _ refl (omega (arith, s, f)) refl)

pub account_enter : (old : BoardState) (a : Account) → IsOrderly old a → (i h : ℕ) (node : Entry) (new : RelayState) → Enters old.plan old.state i h node new
    → account_of (stepped old (Event.Enter i h) new []) ≡ after_enter (account_of old)
account_enter old a o i h node new enters = subst (λ x. account_of (stepped old (Event.Enter i h) x []) ≡ after_enter (account_of old)) (sym enters.after)
    (let s = hand_sum old.state (64 * i + h) [] (hand_within old a o i h enters.leaves.there) in
    let f = ap length enters.leaves.held in
    let k = queue_of_input old.plan i in
    let there = input_queue_there old.plan old.state i o.whole o.shaped enters.leaves.there.0 in
    let q = queue_sum (set_cell old.state (hand i h) []) k (at old.state (Cell.Queue k) ++ node ∷ []) there in
    let n = length-append (at old.state (Cell.Queue k)) (node ∷ []) in
    same_account _ _ _ _ _ _
    (ap (guarded_as old.totals) (zero old.totals.guarded_lost))
    (omega (arith, s, f)) (omega (arith, q, n)))

pub account_expire : (old : BoardState) (a : Account) → IsOrderly old a → (i h : ℕ) (node : Entry) (new : RelayState) → Expires old.plan old.state i h node new
    → account_of (stepped old (Event.Expire i h) new (Out.Lost Cause.Expire node ∷ [])) ≡ after_expire (is_guarded old.plan (guard_of old) node) (account_of old)
account_expire old a o i h node new expires = subst (λ x. account_of (stepped old (Event.Expire i h) x (Out.Lost Cause.Expire node ∷ [])) ≡ after_expire (is_guarded old.plan (guard_of old) node) (account_of old)) (sym expires.after)
    (let s = hand_sum old.state (64 * i + h) [] (hand_within old a o i h expires.leaves.there) in
    let f = ap length expires.leaves.held in
    same_account _ _ _ _ _ _
    (ap (lost_more old.totals) (one_loss (is_guarded old.plan (guard_of old) node)))
    (omega (arith, s, f)) refl)

-- a hand that holds an entry is counted
pub hand_counted : (old : BoardState) (a : Account) → IsOrderly old a → (i h : ℕ) → IsHand old.plan i h → 0 < length (at old.state (hand i h)) → 0 < a.held_in_hands
hand_counted old a o i h there some =
    let s = hand_sum old.state (64 * i + h) [] (hand_within old a o i h there) in
    let e : a.held_in_hands ≡ in_hands old.state = ap (λ (x : Account). x.held_in_hands) o.counted in
    omega (arith, s, e, some)
