-- What a grab reads and writes, and the step that it makes.
use Rattle.std.proofs.Common.{◌≡◌, ℕ, ◌<◌, ◌≤◌, List, [], ◌∷◌, ◌++◌, length, map, drop, refl, sym, subst, ap, ◌∙◌, arith, get_or, set, inr}
use Rattle.std.specs.Prelude.{min}
use Rattle.std.specs.Arc.{arc_value}
use Rattle.std.specs.Vec.{with_item}
use Rattle.std.proofs.lemmas.List.{drop_min, get_or-map, get_or_default, length-map, map-set}
use Rattle.sy_chain.specs.Entries.{Entry}
use Rattle.sy_marks.specs.Marks.{QueueState, kept_of, lost_of}
use Rattle.sy_marks.proofs.Fronts.{kept_min, lost_min}
use Rattle.sy_rules.specs.PlanValue.{Plan}
use Rattle.sy_board.specs.declared.relay.board.Board.TheInside.{Inside}
use Rattle.sy_board.specs.declared.relay.board.Worker.{Worker}
use Rattle.sy_board.specs.declared.fault.BoardFault.TheVariants as fault
use Rattle.sy_board.specs.relay.Boards.{Account, BoardState, Fits, GrabFails, GrabIs, account_of, guard_of}
use Rattle.sy_board.specs.relay.Cells.{Cell, RelayState, at}
use Rattle.sy_board.specs.relay.Plans.{marks_at, marks_of, parameters_at, queue_of_worker}
use Rattle.sy_board.specs.relay.Steps.{Event, Grabs}
use Rattle.sy_board.specs.relay.Totals.{guarded_losses}
use Rattle.sy_board.specs.internal.Counting.{HasRoomFor, after_grab, became_due}
use Rattle.sy_board.specs.internal.Kept.{IsKept, IsOrderly, board_inside, state_inside}
use Rattle.sy_board.proofs.relay.GrabAccounts.{count_by, enough_in_queues, fits_before, grab_account, grab_counted, grabbed, grabbed_state, kept_by, lost_by, room_for_kept}
use Rattle.sy_board.proofs.relay.Losses.{losses_of}
use Rattle.sy_board.proofs.relay.Orderly.{orderly_step}
use Rattle.sy_board.proofs.relay.There.{worker_queue_there, worker_there}

-- ---- elements read and written

set_back : {A B : Type 0} (f : A → B) (xs : List A) (k : ℕ) (x y : A) → y ≡ get_or xs k y → f x ≡ f y → map f (set xs k x) ≡ map f xs
set_back f [] k x y is same = refl
set_back f (z ∷ xs) ℕ.zero x y is same = ap (λ v. v ∷ map f xs) (same ∙ ap f is)
set_back f (z ∷ xs) (ℕ.suc k) x y is same = ap (λ vs. f z ∷ vs) (set_back f xs k x y is same)

read_as : {A B : Type 0} (f : A → B) (xs : List A) (k : ℕ) (x : A) (d : B) → k < length xs → x ≡ get_or xs k x → get_or (map f xs) k d ≡ f x
read_as f xs k x d l is = get_or-map f xs k x d l ∙ ap f (sym is)

-- ---- what a grab has read

-- The worker has no entries, and this is its queue, which has this number and of which so many entries are to be taken.
pub record Reads (b : Inside) (worker count number : ℕ) (slot : Worker) (queue : QueueState) : Type 0 where
  pub number_is : number ≡ queue_of_worker (arc_value b.plan) worker
  pub there : worker < length (arc_value b.plan).workers
  pub slot_is : slot ≡ get_or b.workers.items worker slot
  pub idle : slot.entries ≡ []
  pub queue_is : queue ≡ get_or b.queues.items (queue_of_worker (arc_value b.plan) worker) queue
  pub count_is : count ≡ min (parameters_at (arc_value b.plan) (queue_of_worker (arc_value b.plan) worker)).batch (length queue.entries)

-- this queue and this worker are written back
abbrev pub written : Inside → ℕ → QueueState → ℕ → Worker → Account → Inside
written b q queue worker slot account =
    record b { queues = with_item b.queues q queue; workers = with_item b.workers worker slot; accounts = account }

module _ {b : Inside} {worker count number : ℕ} {slot : Worker} {queue : QueueState} (kept : IsKept b) (reads : Reads b worker count number slot queue) where
  abbrev plan : Plan
  plan = arc_value b.plan

  abbrev q : ℕ
  q = queue_of_worker plan worker

  abbrev old : RelayState
  old = state_inside b

  abbrev board : BoardState
  board = board_inside b

  slot_there : worker < length old.workers
  slot_there = worker_there plan old worker kept.orderly.shaped reads.there

  queue_there : q < length old.queues
  queue_there = worker_queue_there plan old worker kept.orderly.whole kept.orderly.shaped reads.there

  idle_at : at old (Cell.Worker worker) ≡ []
  idle_at =
      let l : worker < length b.workers.items = rw length-map at slot_there in
      read_as (λ (w : Worker). w.entries) b.workers.items worker slot [] l reads.slot_is ∙ reads.idle

  waits_at : at old (Cell.Queue q) ≡ queue.entries
  waits_at =
      let l : q < length b.queues.items = rw length-map at queue_there in
      read_as (λ (x : QueueState). x.entries) b.queues.items q queue [] l reads.queue_is

  marks_are : queue.marks ≡ marks_at plan q
  marks_are =
      let l : q < length b.queues.items = rw length-map at queue_there in
      let m : q < length plan.queues = let s = kept.orderly.shaped.queues in omega (arith, queue_there, s) in
      sym (read_as (λ (x : QueueState). x.marks) b.queues.items q queue (marks_of (parameters_at plan q)) l reads.queue_is)
      ∙ ap (λ xs. get_or xs q (marks_of (parameters_at plan q))) kept.marks
      ∙ read_as marks_of plan.queues q (parameters_at plan q) (marks_of (parameters_at plan q)) m (get_or_default plan.queues q _ (parameters_at plan q) m)

  count_now : count ≡ count_by plan old worker
  count_now = reads.count_is ∙ ap (λ es. min (parameters_at plan q).batch (length es)) (sym waits_at)

  pub kept_are : kept_of queue.marks count queue.entries ≡ kept_by plan old worker
  kept_are =
      kept_min queue.marks count (parameters_at plan q).batch queue.entries reads.count_is
      ∙ ap (λ m. kept_of m (parameters_at plan q).batch queue.entries) marks_are
      ∙ ap (λ es. kept_of (marks_at plan q) (parameters_at plan q).batch es) (sym waits_at)

  lost_are : lost_of queue.marks count queue.entries ≡ lost_by plan old worker
  lost_are =
      lost_min queue.marks count (parameters_at plan q).batch queue.entries reads.count_is
      ∙ ap (λ m. lost_of m (parameters_at plan q).batch queue.entries) marks_are
      ∙ ap (λ es. lost_of (marks_at plan q) (parameters_at plan q).batch es) (sym waits_at)

  -- ---- the step

  grabs : 0 < count → Grabs plan old worker (lost_by plan old worker) (grabbed_state plan old worker)
  grabs some = record {
    there = reads.there;
    idle = idle_at;
    some = let now = count_now in omega (arith, now, some);
    lost_are = refl;
    after = refl;
  }

  orderly_before : IsOrderly board (account_of board)
  orderly_before = subst (λ (a : Account). IsOrderly (record board { totals = a.totals }) a) kept.orderly.counted kept.orderly

  orderly_after : 0 < count → IsOrderly (grabbed board worker) (account_of (grabbed board worker))
  orderly_after some = orderly_step board orderly_before (Event.Grab worker) (grabbed_state plan old worker) (losses_of (lost_by plan old worker))
      (lost_by plan old worker, grabs some, refl)

  pub enough : count ≤ b.accounts.held_in_queues
  enough =
      let a = enough_in_queues board worker slot_there queue_there in
      let c = count_now in
      let d = ap (λ (x : Account). x.held_in_queues) kept.orderly.counted in
      omega (arith, a, c, d)

  -- ---- nothing but room was made

  back_state : (slot2 : Worker) → slot2.entries ≡ slot.entries → slot2.failures ≡ slot.failures → (a : Account)
      → state_inside (written b q queue worker slot2 a) ≡ state_inside b
  back_state slot2 items failures a =
      let state : List (List Entry) → List (List Entry) → List ℕ → RelayState = λ qs ws fs. record { hands = old.hands; queues = qs; workers = ws; failures = fs } in
      let qs = set_back (λ (x : QueueState). x.entries) b.queues.items q queue queue reads.queue_is refl in
      let ws = set_back (λ (x : Worker). x.entries) b.workers.items worker slot2 slot reads.slot_is items in
      let fs = set_back (λ (x : Worker). x.failures) b.workers.items worker slot2 slot reads.slot_is failures in
      ap (λ x. state x (map (λ (x : Worker). x.entries) (set b.workers.items worker slot2)) (map (λ (x : Worker). x.failures) (set b.workers.items worker slot2))) qs
      ∙ ap (λ x. state old.queues x (map (λ (x : Worker). x.failures) (set b.workers.items worker slot2))) ws
      ∙ ap (λ x. state old.queues old.workers x) fs

  pub back_board : (slot2 : Worker) → slot2.entries ≡ slot.entries → slot2.failures ≡ slot.failures → (a : Account) → a ≡ b.accounts
      → board_inside (written b number queue worker slot2 a) ≡ board
  back_board slot2 items failures a is =
      ap (λ n. board_inside (written b n queue worker slot2 a)) reads.number_is
      ∙ ap (λ s. record { plan = plan; guard = b.guard; state = s; totals = a.totals }) (back_state slot2 items failures a)
      ∙ ap (λ (x : Account). record { plan = plan; guard = b.guard; state = old; totals = x.totals }) is

  pub back_kept : (slot2 : Worker) → slot2.entries ≡ slot.entries → slot2.failures ≡ slot.failures → (a : Account) → a ≡ b.accounts
      → IsKept (written b number queue worker slot2 a)
  back_kept slot2 items failures a is = subst (λ n. IsKept (written b n queue worker slot2 a)) (sym reads.number_is) (record {
    marks = set_back (λ (x : QueueState). x.marks) b.queues.items q queue queue reads.queue_is refl ∙ kept.marks;
    orderly = subst (λ s. IsOrderly (record { plan = plan; guard = b.guard; state = s; totals = a.totals }) a) (sym (back_state slot2 items failures a))
        (subst (λ (x : Account). IsOrderly (record { plan = plan; guard = b.guard; state = old; totals = x.totals }) x) (sym is) kept.orderly);
  })

  -- ---- the entries were taken

  module _ {queue2 : QueueState} (slot2 : Worker) (rest : queue2 ≡ record queue { entries = drop count queue.entries })
      (items : slot2.entries ≡ slot.entries ++ kept_of queue.marks count queue.entries) (failures : slot2.failures ≡ slot.failures) where
    pub kept_items : slot2.entries ≡ kept_by plan old worker
    kept_items = items ∙ ap (λ es. es ++ kept_of queue.marks count queue.entries) reads.idle ∙ kept_are

    rest_entries : queue2.entries ≡ drop (parameters_at plan q).batch (at old (Cell.Queue q))
    rest_entries =
        ap (λ (x : QueueState). x.entries) rest
        ∙ ap (λ n. drop n queue.entries) reads.count_is
        ∙ drop_min (parameters_at plan q).batch queue.entries
        ∙ ap (λ es. drop (parameters_at plan q).batch es) (sym waits_at)

    after_state : (a : Account) → state_inside (written b q queue2 worker slot2 a) ≡ grabbed_state plan old worker
    after_state a =
        let state : List (List Entry) → List (List Entry) → List ℕ → RelayState = λ qs ws fs. record { hands = old.hands; queues = qs; workers = ws; failures = fs } in
        let qs = map-set (λ (x : QueueState). x.entries) b.queues.items q queue2 ∙ ap (λ es. set old.queues q es) rest_entries in
        let ws = map-set (λ (x : Worker). x.entries) b.workers.items worker slot2 ∙ ap (λ es. set old.workers worker es) kept_items in
        let fs = set_back (λ (x : Worker). x.failures) b.workers.items worker slot2 slot reads.slot_is failures in
        ap (λ x. state x (map (λ (x : Worker). x.entries) (set b.workers.items worker slot2)) (map (λ (x : Worker). x.failures) (set b.workers.items worker slot2))) qs
        ∙ ap (λ x. state (set old.queues q (drop (parameters_at plan q).batch (at old (Cell.Queue q)))) x (map (λ (x : Worker). x.failures) (set b.workers.items worker slot2))) ws
        ∙ ap (λ x. state (set old.queues q (drop (parameters_at plan q).batch (at old (Cell.Queue q)))) (set old.workers worker (kept_by plan old worker)) x) fs

    pub after_board : (a : Account) → a ≡ account_of (grabbed board worker) → board_inside (written b number queue2 worker slot2 a) ≡ grabbed board worker
    after_board a is =
        ap (λ n. board_inside (written b n queue2 worker slot2 a)) reads.number_is
        ∙ ap (λ s. record { plan = plan; guard = b.guard; state = s; totals = a.totals }) (after_state a)
        ∙ ap (λ (x : Account). record { plan = plan; guard = b.guard; state = grabbed_state plan old worker; totals = x.totals }) is

    pub after_kept : 0 < count → (a : Account) → a ≡ account_of (grabbed board worker) → IsKept (written b number queue2 worker slot2 a)
    after_kept some a is = subst (λ n. IsKept (written b n queue2 worker slot2 a)) (sym reads.number_is) (record {
      marks = set_back (λ (x : QueueState). x.marks) b.queues.items q queue2 queue reads.queue_is (ap (λ (x : QueueState). x.marks) rest) ∙ kept.marks;
      orderly = subst (λ s. IsOrderly (record { plan = plan; guard = b.guard; state = s; totals = a.totals }) a) (sym (after_state a))
          (subst (λ (x : Account). IsOrderly (record { plan = plan; guard = b.guard; state = grabbed_state plan old worker; totals = x.totals }) x) (sym is) (orderly_after some));
    })

  -- ---- what is counted

  -- what count_grab was given
  counted_is : (lost guarded : ℕ) → lost ≡ length (lost_of queue.marks count queue.entries)
      → guarded ≡ guarded_losses board.plan (guard_of board) (losses_of (lost_of queue.marks count queue.entries))
      → after_grab count lost guarded b.accounts ≡ grab_counted board worker
  counted_is lost guarded many few =
      ap (λ n. after_grab n lost guarded b.accounts) count_now
      ∙ ap (λ n. after_grab (count_by plan old worker) n guarded b.accounts) (many ∙ ap length lost_are)
      ∙ ap (λ n. after_grab (count_by plan old worker) (length (lost_by plan old worker)) n b.accounts) (few ∙ ap (λ es. guarded_losses board.plan (guard_of board) (losses_of es)) lost_are)
      ∙ ap (after_grab (count_by plan old worker) (length (lost_by plan old worker)) (guarded_losses board.plan (guard_of board) (losses_of (lost_by plan old worker)))) kept.orderly.counted

  account_is : account_of (grabbed board worker) ≡ became_due plan (kept_by plan old worker) (grab_counted board worker)
  account_is = grab_account board worker slot_there queue_there

  pub too_full : 0 < count → (lost guarded : ℕ) → lost ≡ length (lost_of queue.marks count queue.entries)
      → guarded ≡ guarded_losses board.plan (guard_of board) (losses_of (lost_of queue.marks count queue.entries))
      → (Fits (after_grab count lost guarded b.accounts) → ⊥) → (value : BoardState) → board ≡ value → GrabFails fault.TotalsFull value worker
  too_full some lost guarded many few full value is = subst (λ x. GrabFails fault.TotalsFull x worker) is (
    lost_by plan old worker,
    grabbed_state plan old worker,
    grabs some,
    λ fits. full (subst Fits (sym (counted_is lost guarded many few)) (fits_before plan (kept_by plan old worker) (grab_counted board worker) (subst Fits account_is fits))),
  )

  -- the accounts have room for what the kept entries have due
  pub room : (lost guarded : ℕ) → lost ≡ length (lost_of queue.marks count queue.entries)
      → guarded ≡ guarded_losses board.plan (guard_of board) (losses_of (lost_of queue.marks count queue.entries))
      → (es : List Entry) → es ≡ kept_by plan old worker → (a : Account) → a ≡ after_grab count lost guarded b.accounts → HasRoomFor plan es a
  room lost guarded many few es is a counted =
      subst (λ es. HasRoomFor plan es a) (sym is)
      (subst (HasRoomFor plan (kept_by plan old worker)) (sym (counted ∙ counted_is lost guarded many few))
      (room_for_kept board b.accounts worker kept.orderly (let s = kept.orderly.shaped.queues in omega (arith, queue_there, s))))

  pub account_after : (lost guarded : ℕ) → lost ≡ length (lost_of queue.marks count queue.entries)
      → guarded ≡ guarded_losses board.plan (guard_of board) (losses_of (lost_of queue.marks count queue.entries))
      → (es : List Entry) → es ≡ kept_by plan old worker → (a : Account) → a ≡ after_grab count lost guarded b.accounts → (c : Account) → c ≡ became_due plan es a
      → c ≡ account_of (grabbed board worker)
  account_after lost guarded many few es is a counted c due =
      due ∙ ap (λ es. became_due plan es a) is ∙ ap (became_due plan (kept_by plan old worker)) (counted ∙ counted_is lost guarded many few) ∙ sym account_is

  -- ---- the answer

  pub grab_answer : 0 < count → (lost : List Entry) → lost ≡ lost_of queue.marks count queue.entries → (value new : BoardState) → board ≡ value → new ≡ grabbed board worker
      → GrabIs count lost value worker new
  grab_answer some lost lost_is value new view is =
      subst (λ x. GrabIs count lost x worker new) view
      (subst (GrabIs count lost board worker) (sym is)
      (subst (λ (es : List Entry). GrabIs count es board worker (grabbed board worker)) (sym (lost_is ∙ lost_are)) (inr (grabs some, count_now, refl))))

-- ---- from what the calls said

pub reads_by : {b : Inside} {value : BoardState} {worker count number batch len : ℕ} {plan : Plan} {slot : Worker} {queue : QueueState}
    → board_inside b ≡ value → worker < length value.plan.workers → plan ≡ arc_value b.plan
    → slot ≡ get_or b.workers.items worker slot → slot.entries ≡ []
    → number ≡ queue_of_worker plan worker → batch ≡ (parameters_at plan number).batch → queue ≡ get_or b.queues.items number queue
    → len ≡ length queue.entries → count ≡ min batch len
    → Reads b worker count number slot queue
reads_by {b} {value} {worker} {count} {number} {batch} {len} {plan} {slot} {queue} view there same slot_is idle number_is batch_is queue_is len_is count_is =
    let of : number ≡ queue_of_worker (arc_value b.plan) worker = number_is ∙ ap (λ (p : Plan). queue_of_worker p worker) same in
    record {
      number_is = of;
      there = subst (λ (x : BoardState). worker < length x.plan.workers) (sym view) there;
      slot_is = slot_is;
      idle = idle;
      queue_is = queue_is ∙ ap (λ x. get_or b.queues.items x queue) of;
      count_is = count_is ∙ ap (min batch) len_is
          ∙ ap (λ x. min x (length queue.entries)) (batch_is ∙ ap (λ p. (parameters_at p number).batch) same ∙ ap (λ x. (parameters_at (arc_value b.plan) x).batch) of);
    }
