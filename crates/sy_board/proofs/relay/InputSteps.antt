-- The steps Take, Enter and Expire, as methods see them.
use Rattle.std.proofs.Common.{◌≡◌, ℕ, ◌+◌, ◌*◌, ◌<◌, ◌≤◌, Bool, true, false, if◌then◌else◌, List, [], ◌∷◌, ◌++◌, length, get_or, map, option_to_list, Option, Some, None, refl, sym, subst, ap, ◌∙◌, arith}
use Rattle.std.specs.Prelude.{is_some, ◌&&◌}
use Rattle.sy_chain.specs.Entries.{Entry}
use Rattle.sy_marks.specs.Marks.{HoldIs, QueueState, discards, is_delayed}
use Rattle.sy_marks.specs.declared.marks.Hold.{Hold}
use Rattle.sy_marks.specs.declared.marks.Hold.TheVariants as hold
use Rattle.sy_board.specs.internal.Jobs.{is_expiring, is_holding}
use Rattle.sy_rules.specs.PlanValue.{Plan}
use Rattle.sy_board.specs.internal.Kept.{IsKept, board_inside}
use Rattle.sy_board.specs.declared.relay.board.Board.TheInside.{Inside}
use Rattle.sy_board.specs.relay.Boards.{EnterFails, ExpireFails, Fits, account_of, guard_of, stepped}
use Rattle.sy_board.specs.declared.fault.BoardFault.{BoardFault}
use Rattle.sy_board.specs.declared.fault.BoardFault.TheVariants as fault
use Rattle.sy_board.specs.relay.Cells.{Cell, RelayState, at, hand, set_cell, waiting}
use Rattle.sy_board.specs.relay.Plans.{flow_at, marks_at, parameters_at, queue_of_input}
use Rattle.sy_board.specs.relay.Steps.{Cause, Enters, Event, Expires, IsHand, IsOfInput, Out, Takes, if_so}
use Rattle.sy_board.specs.relay.Totals.{is_guarded}
use Rattle.sy_board.specs.internal.Counting.{BringFails, LoseFails, after_enter, after_expire, after_take}
use Rattle.sy_board.proofs.relay.InputAccounts.{account_enter, account_expire, account_take, hand_counted}
use Rattle.sy_board.proofs.relay.Seen.{IsQueue, hand_read, none_list, queue_seen, queues_there}
use Rattle.sy_board.proofs.relay.There.{hand_there, input_queue_there}

map_length : {A B : Type 0} (f : A → B) (xs : List A) → length (map f xs) ≡ length xs
map_length f [] = refl
map_length f (x ∷ xs) = ap ℕ.suc (map_length f xs)

-- a hand's place is in the table
pub hand_in_table : (b : Inside) → IsKept b → (i h : ℕ) → IsHand (board_inside b).plan i h → 64 * i + h < length b.hands.items
hand_in_table b kept i h there = subst (λ n. 64 * i + h < n) (map_length option_to_list b.hands.items) (hand_there (board_inside b).plan (board_inside b).state i h kept.orderly.shaped there)

-- and so is the queue of an input
pub queue_in_table : (b : Inside) → IsKept b → (i : ℕ) → i < length (board_inside b).plan.inputs → queue_of_input (board_inside b).plan i < length b.queues.items
queue_in_table b kept i there = rw (queues_there b.queues.items) (input_queue_there (board_inside b).plan (board_inside b).state i kept.orderly.whole kept.orderly.shaped there)

-- what was read of an input's queue
pub input_queue_seen : (b : Inside) → IsKept b → (i : ℕ) → i < length (board_inside b).plan.inputs → (k : ℕ) (q : QueueState) → k ≡ queue_of_input (board_inside b).plan i
    → q ≡ get_or b.queues.items k q → IsQueue (board_inside b).plan (board_inside b).state (queue_of_input (board_inside b).plan i) q
input_queue_seen b kept i there k q is read =
    queue_seen (board_inside b).plan (board_inside b).state b.queues.items (queue_of_input (board_inside b).plan i) q kept.marks refl (queue_in_table b kept i there) (rw is at read)

abbrev pub taken_state : Inside → ℕ → ℕ → Entry → Bool → RelayState
taken_state b i h node lost = if lost then (board_inside b).state else set_cell (board_inside b).state (hand i h) (node ∷ [])

abbrev pub taken_outs : Entry → Bool → List Out
taken_outs node lost = if_so lost (Out.Lost Cause.Take node)

-- The step, and what it makes of the account.
pub record TakeSeen (b : Inside) (i h : ℕ) (node : Entry) (lost guarded : Bool) (new : RelayState) : Type 0 where
  pub takes : Takes (board_inside b).plan (board_inside b).state i h node lost new
  pub counted : account_of (stepped (board_inside b) (Event.Take i h node) new (if_so lost (Out.Lost Cause.Take node))) ≡ after_take lost guarded b.accounts

takes_seen : (b : Inside) → IsKept b → (i h : ℕ) (node : Entry) → IsHand (board_inside b).plan i h → IsOfInput (board_inside b).plan i node
    → (x : Option Entry) → x ≡ get_or b.hands.items (64 * i + h) x → is_some x ≡ false
    → (q : QueueState) → IsQueue (board_inside b).plan (board_inside b).state (queue_of_input (board_inside b).plan i) q
    → (lost : Bool) → lost ≡ discards q.marks node.message.class.severity (length q.entries)
    → Takes (board_inside b).plan (board_inside b).state i h node lost (if lost then (board_inside b).state else set_cell (board_inside b).state (hand i h) (node ∷ []))
takes_seen b kept i h node there made x read none q queue lost is = record {
  there = there;
  made = made;
  free = hand_read b.hands.items (64 * i + h) x (hand_in_table b kept i h there) read ∙ none_list x none;
  discarded = sym (rw (queue.marks, queue.entries) at is);
  after = refl;
}

pub take_seen : (b : Inside) → IsKept b → (i h : ℕ) (node : Entry) → IsHand (board_inside b).plan i h → IsOfInput (board_inside b).plan i node
    → (x : Option Entry) → x ≡ get_or b.hands.items (64 * i + h) x → is_some x ≡ false
    → (q : QueueState) → IsQueue (board_inside b).plan (board_inside b).state (queue_of_input (board_inside b).plan i) q
    → (lost guarded : Bool) → lost ≡ discards q.marks node.message.class.severity (length q.entries) → guarded ≡ (lost && is_guarded (board_inside b).plan (guard_of (board_inside b)) node)
    → TakeSeen b i h node lost guarded (if lost then (board_inside b).state else set_cell (board_inside b).state (hand i h) (node ∷ []))
take_seen b kept i h node there made x read none q queue lost guarded is g =
    let new = if lost then (board_inside b).state else set_cell (board_inside b).state (hand i h) (node ∷ []) in
    let takes = takes_seen b kept i h node there made x read none q queue lost is in
    let more = lost && is_guarded (board_inside b).plan (guard_of (board_inside b)) node in
    record {
      takes = takes;
      counted = account_take (board_inside b) b.accounts kept.orderly i h node lost new takes
          ∙ ap (after_take lost more) (sym kept.orderly.counted)
          ∙ ap (λ (x : Bool). after_take lost x b.accounts) (sym g);
    }

-- ---- enter and expire

-- a hand that isn't free holds an entry
some_in : (x : Option Entry) → is_some x ≡ true → (node : Entry) × (option_to_list x ≡ node ∷ [])
some_in None n = cc
some_in (Some node) n = (node, refl)

abbrev pub entered_state : Inside → ℕ → ℕ → Option Entry → RelayState
entered_state b i h x = set_cell (set_cell (board_inside b).state (hand i h) [])
    (Cell.Queue (queue_of_input (board_inside b).plan i)) (at (board_inside b).state (Cell.Queue (queue_of_input (board_inside b).plan i)) ++ option_to_list x)

-- nothing holds the message, or the light-delay mark alone
pub record EnterSeen (b : Inside) (i h : ℕ) (x : Option Entry) : Type 0 where
  pub node : Entry
  pub enters : Enters (board_inside b).plan (board_inside b).state i h node (entered_state b i h x)
  pub counted : account_of (stepped (board_inside b) (Event.Enter i h) (entered_state b i h x) []) ≡ after_enter b.accounts

abbrev IsClear : Plan → RelayState → ℕ → Type 0
IsClear plan state i =
    (is_delayed (flow_at plan i) (marks_at plan (queue_of_input plan i)) (waiting state (queue_of_input plan i)) ≡ false)
    × (waiting state (queue_of_input plan i) < (parameters_at plan (queue_of_input plan i)).size)

clear_if : (plan : Plan) (state : RelayState) (i : ℕ) (h : Hold) → HoldIs h (flow_at plan i) (marks_at plan (queue_of_input plan i)) (waiting state (queue_of_input plan i))
    → is_holding h ≡ false → IsClear plan state i
clear_if plan state i hold.FullDelay is free = cc
clear_if plan state i hold.Full is free = cc
clear_if plan state i hold.LightDelay is free = (is.0, is.1)
clear_if plan state i hold.Clear is free = (is.0, is.1)

pub enter_seen : (b : Inside) → IsKept b → (i h : ℕ) → IsHand (board_inside b).plan i h → (x : Option Entry) → x ≡ get_or b.hands.items (64 * i + h) x → is_some x ≡ true
    → (is : Hold) → HoldIs is (flow_at (board_inside b).plan i) (marks_at (board_inside b).plan (queue_of_input (board_inside b).plan i)) (waiting (board_inside b).state (queue_of_input (board_inside b).plan i))
    → is_holding is ≡ false → EnterSeen b i h x
enter_seen b kept i h there x read some is holds free =
    let one = some_in x some in
    let clear = clear_if (board_inside b).plan (board_inside b).state i is holds free in
    let enters : Enters (board_inside b).plan (board_inside b).state i h one.0 (entered_state b i h x) = record {
      leaves = record {
        there = there;
        held = hand_read b.hands.items (64 * i + h) x (hand_in_table b kept i h there) read ∙ one.1;
        not_held = clear.0;
      };
      room = clear.1;
      after = rw one.1 refl;
    } in
    record {
      node = one.0;
      enters = enters;
      counted = account_enter (board_inside b) b.accounts kept.orderly i h one.0 (entered_state b i h x) enters ∙ ap after_enter (sym kept.orderly.counted);
    }

-- a hand that isn't free is counted
pub hand_counts : (b : Inside) → IsKept b → (i h : ℕ) → IsHand (board_inside b).plan i h → (x : Option Entry) → x ≡ get_or b.hands.items (64 * i + h) x → is_some x ≡ true → 0 < b.accounts.held_in_hands
hand_counts b kept i h there x read some =
    let one = some_in x some in
    let n = ap length (hand_read b.hands.items (64 * i + h) x (hand_in_table b kept i h there) read ∙ one.1) in
    hand_counted (board_inside b) b.accounts kept.orderly i h there (omega (arith, n))

-- a queue where nothing holds a message has room for it
pub room_seen : (b : Inside) (i : ℕ) (q : QueueState) → IsQueue (board_inside b).plan (board_inside b).state (queue_of_input (board_inside b).plan i) q
    → (is : Hold) → HoldIs is (flow_at (board_inside b).plan i) (marks_at (board_inside b).plan (queue_of_input (board_inside b).plan i)) (waiting (board_inside b).state (queue_of_input (board_inside b).plan i))
    → is_holding is ≡ false → length q.entries < q.marks.size
room_seen b i q queue is holds free = rw (queue.entries, queue.marks) ((clear_if (board_inside b).plan (board_inside b).state i is holds free).1)

-- why it can't be brought there
pub bring_fails : (b : Inside) (i h : ℕ) (x : Option Entry) → EnterSeen b i h x → (f : BoardFault) → BringFails f b.accounts → EnterFails f (board_inside b) i h
bring_fails b i h x seen fault.TotalsFull is = (seen.node, _, seen.enters, λ fits. (let n = (subst Fits seen.counted fits).queues in omega (arith, is, n)))
bring_fails b i h x seen fault.HandTaken is = absurd is
bring_fails b i h x seen fault.HandEmpty is = absurd is
bring_fails b i h x seen fault.SlotBusy is = absurd is
bring_fails b i h x seen fault.NoJob is = absurd is
bring_fails b i h x seen fault.WrongReceipt is = absurd is
bring_fails b i h x seen fault.NotExpired is = absurd is

-- ---- expire

abbrev pub expired_state : Inside → ℕ → ℕ → RelayState
expired_state b i h = set_cell (board_inside b).state (hand i h) []

full_if : (plan : Plan) (state : RelayState) (i : ℕ) (h : Hold) → HoldIs h (flow_at plan i) (marks_at plan (queue_of_input plan i)) (waiting state (queue_of_input plan i))
    → true ≡ is_expiring h → (is_delayed (flow_at plan i) (marks_at plan (queue_of_input plan i)) (waiting state (queue_of_input plan i)) ≡ false)
    × ((parameters_at plan (queue_of_input plan i)).size ≤ waiting state (queue_of_input plan i))
full_if plan state i hold.FullDelay is full = cc
full_if plan state i hold.Full is full = is
full_if plan state i hold.LightDelay is full = cc
full_if plan state i hold.Clear is full = cc

pub record ExpireSeen (b : Inside) (i h : ℕ) (node : Entry) : Type 0 where
  pub expires : Expires (board_inside b).plan (board_inside b).state i h node (expired_state b i h)
  pub counted : account_of (stepped (board_inside b) (Event.Expire i h) (expired_state b i h) (Out.Lost Cause.Expire node ∷ [])) ≡ after_expire (is_guarded (board_inside b).plan (guard_of (board_inside b)) node) b.accounts

pub expire_seen : (b : Inside) → IsKept b → (i h : ℕ) → IsHand (board_inside b).plan i h → (node : Entry) (x : Option Entry) → x ≡ get_or b.hands.items (64 * i + h) x → x ≡ Some node
    → (is : Hold) → HoldIs is (flow_at (board_inside b).plan i) (marks_at (board_inside b).plan (queue_of_input (board_inside b).plan i)) (waiting (board_inside b).state (queue_of_input (board_inside b).plan i))
    → true ≡ is_expiring is → ExpireSeen b i h node
expire_seen b kept i h there node x read one is holds full =
    let clear = full_if (board_inside b).plan (board_inside b).state i is holds full in
    let expires : Expires (board_inside b).plan (board_inside b).state i h node (expired_state b i h) = record {
      leaves = record {
        there = there;
        held = hand_read b.hands.items (64 * i + h) x (hand_in_table b kept i h there) read ∙ ap option_to_list one;
        not_held = clear.0;
      };
      full = clear.1;
      after = refl;
    } in
    record {
      expires = expires;
      counted = account_expire (board_inside b) b.accounts kept.orderly i h node (expired_state b i h) expires ∙ ap (after_expire (is_guarded (board_inside b).plan (guard_of (board_inside b)) node)) (sym kept.orderly.counted);
    }

-- why a hand's message can't be lost
pub lose_fails : (b : Inside) → IsKept b → (i h : ℕ) → IsHand (board_inside b).plan i h → (x : Option Entry) → x ≡ get_or b.hands.items (64 * i + h) x
    → (is : Hold) → HoldIs is (flow_at (board_inside b).plan i) (marks_at (board_inside b).plan (queue_of_input (board_inside b).plan i)) (waiting (board_inside b).state (queue_of_input (board_inside b).plan i))
    → true ≡ is_expiring is → (f : BoardFault) → LoseFails f x (board_inside b).plan (guard_of (board_inside b)) b.accounts → ExpireFails f (board_inside b) i h
lose_fails b kept i h there x read is holds full fault.HandEmpty none = hand_read b.hands.items (64 * i + h) x (hand_in_table b kept i h there) read ∙ ap option_to_list none
lose_fails b kept i h there x read is holds full fault.TotalsFull (node, one, more) =
    let seen = expire_seen b kept i h there node x read one is holds full in
    (node, expired_state b i h, seen.expires, λ fits. more (subst Fits seen.counted fits))
lose_fails b kept i h there x read is holds full fault.HandTaken f = absurd f
lose_fails b kept i h there x read is holds full fault.SlotBusy f = absurd f
lose_fails b kept i h there x read is holds full fault.NoJob f = absurd f
lose_fails b kept i h there x read is holds full fault.WrongReceipt f = absurd f
lose_fails b kept i h there x read is holds full fault.NotExpired f = absurd f
