-- A worker's post as a method finds it, and the steps that it makes of it.
use Rattle.std.proofs.Common.{◌≡◌, ℕ, ◌+◌, ◌<◌, ◌≤◌, ◌^◌, ◌⊎◌, Bool, true, false, inl, inr, List, [], ◌∷◌, ◌++◌, length, map, refl, sym, subst, ap, ◌∙◌, arith, get_or, set}
use Rattle.std.specs.Prelude.{◌≢◌}
use Rattle.std.specs.Arc.{arc_value}
use Rattle.std.specs.Vec.{with_item}
use Rattle.std.proofs.lemmas.List.{length-map, map-set, set-get_or}
use Rattle.sy_chain.specs.Entries.{Entry}
use Rattle.sy_marks.specs.declared.marks.Flow.{Flow}
use Rattle.sy_marks.specs.declared.marks.Flow.TheVariants as flow
use Rattle.sy_marks.specs.declared.marks.Hold.{Hold}
use Rattle.sy_marks.specs.declared.marks.Hold.TheVariants as hold
use Rattle.sy_marks.specs.declared.marks.Marks.{Marks}
use Rattle.sy_marks.specs.Marks.{HoldIs, QueueState, discards, is_delayed}
use Rattle.sy_rules.specs.declared.lists.occurrence.Occurrence.TheVariants as occurrence
use Rattle.sy_rules.specs.PlanValue.{Plan}
use Rattle.sy_rules.specs.Whole.{queue_for}
use Rattle.sy_board.specs.declared.fault.BoardFault.TheVariants as fault
use Rattle.sy_board.specs.declared.relay.answers.PostCause.{PostCause}
use Rattle.sy_board.specs.declared.relay.answers.PostCause.TheVariants as cause
use Rattle.sy_board.specs.declared.relay.answers.Posted.TheVariants as posted
use Rattle.sy_board.specs.declared.relay.board.Board.TheInside.{Inside}
use Rattle.sy_board.specs.declared.relay.board.Worker.{Worker}
use Rattle.sy_board.specs.relay.Boards.{Account, BoardState, Fits, HasNoPost, IsForPost, PostFails, PostIs, PostLostFails, PostLostIs, account_of, guard_of, is_no_memory, stepped}
use Rattle.sy_board.specs.relay.Cells.{Cell, RelayState, at, set_cell, waiting}
use Rattle.sy_board.specs.relay.Plans.{marks_at, post_flow}
use Rattle.sy_board.specs.relay.Steps.{Cause, Event, HasRoom, Job, LosesPost, MayBeLost, Out, Posts, advanced}
use Rattle.sy_board.specs.relay.Totals.{Totals, is_guarded_loss}
use Rattle.sy_board.specs.internal.Counting.{HasPostLeft, after_lost_post, after_post}
use Rattle.sy_board.specs.internal.Jobs.{IsNext, is_expiring, is_holding, may_lose}
use Rattle.sy_board.specs.internal.Kept.{IsKept, IsOrderly, board_inside, state_inside}
use Rattle.sy_board.proofs.relay.JobAccounts.{board_after, kept_after}
use Rattle.sy_board.proofs.relay.JobSteps.{IsAdvanced, IsTurn}
use Rattle.sy_board.proofs.relay.Orderly.{orderly_step}
use Rattle.sy_board.proofs.relay.Outcomes.{jobs_same}
use Rattle.sy_board.proofs.relay.PostAccounts.{account_post, account_post_discarded, account_post_lost, post_left}
use Rattle.sy_board.proofs.relay.Seen.{IsQueue, queue_seen}
use Rattle.sy_board.proofs.relay.Slots.{IsSlot, advanced_state, job_of, next_of_job, with_worker}
use Rattle.sy_board.proofs.relay.There.{list_queue_there}

-- ---- without a post

pub no_post : (b : Inside) (w : ℕ) (slot : Worker) → IsSlot b w slot → ((list left : ℕ) → IsNext (arc_value b.plan) slot.entries (occurrence.Post list) left → ⊥)
    → HasNoPost (board_inside b) w
no_post b w slot is none list job = none list job.left (next_of_job b w slot (occurrence.Post list) is job)

-- ---- the list's queue

-- The queue of a list, as it was read.
pub record IsListQueue (b : Inside) (list q : ℕ) (queue : QueueState) : Type 0 where
  pub number : q ≡ queue_for (arc_value b.plan) list
  pub read : queue ≡ get_or b.queues.items q queue
  pub marks : queue.marks ≡ marks_at (arc_value b.plan) (queue_for (arc_value b.plan) list)
  pub entries : queue.entries ≡ at (state_inside b) (Cell.Queue (queue_for (arc_value b.plan) list))

pub queue_there : (b : Inside) (list q : ℕ) → IsKept b → q ≡ queue_for (arc_value b.plan) list → q < length b.queues.items
queue_there b list q kept is =
    let there : queue_for (arc_value b.plan) list < length b.queues.items = rw length-map at (list_queue_there (arc_value b.plan) (state_inside b) list kept.orderly.whole kept.orderly.shaped) in
    omega (arith, there, is)

pub list_queue : (b : Inside) (list q : ℕ) (queue : QueueState) → IsKept b → q ≡ queue_for (arc_value b.plan) list → queue ≡ get_or b.queues.items q queue → IsListQueue b list q queue
list_queue b list q queue kept number read =
    let plan = arc_value b.plan in
    let seen : IsQueue plan (state_inside b) (queue_for plan list) queue =
    subst (λ k. IsQueue plan (state_inside b) k queue) number (queue_seen plan (state_inside b) b.queues.items q queue kept.marks refl (queue_there b list q kept number) read) in
    record { number = number; read = read; marks = seen.marks; entries = seen.entries }

-- What holds a post in a queue, as the queue says it.
pub free_by : (f : Flow) (marks : Marks) (n : ℕ) (h : Hold) → HoldIs h f marks n → is_holding h ≡ false → (n < marks.size) × (is_delayed f marks n ≡ false)
free_by f marks n hold.FullDelay is free = cc
free_by f marks n hold.Full is free = cc
free_by f marks n hold.LightDelay is free = (is.1, is.0)
free_by f marks n hold.Clear is free = (is.1, is.0)

pub held_by : (f : Flow) (marks : Marks) (n : ℕ) (h : Hold) → HoldIs h f marks n → is_holding h ≡ true → (is_delayed f marks n ≡ true) ⊎ (marks.size ≤ n)
held_by f marks n hold.FullDelay is held = inl is
held_by f marks n hold.Full is held = inr is.1
held_by f marks n hold.LightDelay is held = cc
held_by f marks n hold.Clear is held = cc

-- what isn't lost to a full queue isn't in one, or the mark holds it
not_lost_by : (f : Flow) (marks : Marks) (n : ℕ) (h : Hold) → HoldIs h f marks n → is_expiring h ≡ false → marks.size ≤ n → is_delayed f marks n ≡ false → ⊥
not_lost_by f marks n hold.FullDelay is stays full free = cc
not_lost_by f marks n hold.Full is stays full free = cc
not_lost_by f marks n hold.LightDelay is stays full free = let room = is.1 in omega (arith, room, full)
not_lost_by f marks n hold.Clear is stays full free = let room = is.1 in omega (arith, room, full)

-- for want of memory all is lost but what waits
never_waits : (f : Flow) (h : Hold) → may_lose cause.NoMemory f h ≡ true → f ≢ flow.Full
never_waits flow.Full h may is = cc
never_waits flow.Light h may is = cc
never_waits flow.NoWait h may is = cc

waits_by : (f : Flow) (h : Hold) → may_lose cause.NoMemory f h ≡ false → f ≡ flow.Full
waits_by flow.Full h stays = refl
waits_by flow.Light h stays = cc
waits_by flow.NoWait h stays = cc

-- ---- what is written back as it was read

-- the same fields, but this queue
abbrev pub with_queue : Inside → ℕ → QueueState → Inside
with_queue b q queue = record b { queues = with_item b.queues q queue }

back : {A : Type 0} (xs : List A) (k : ℕ) (x : A) → x ≡ get_or xs k x → set xs k x ≡ xs
back xs k x read = ap (λ z. set xs k z) read ∙ set-get_or xs k x

same_board : (b : Inside) (queues workers : List (List Entry)) (failures : List ℕ) → queues ≡ (state_inside b).queues → workers ≡ (state_inside b).workers → failures ≡ (state_inside b).failures
    → record (board_inside b) { state = record (state_inside b) { queues = queues; workers = workers; failures = failures } } ≡ board_inside b
same_board b queues workers failures p q r = rw (p, q, r) refl

queue_back_board : (b : Inside) (q : ℕ) (queue : QueueState) → queue ≡ get_or b.queues.items q queue → board_inside (with_queue b q queue) ≡ board_inside b
queue_back_board b q queue read = same_board b _ _ _ (ap (map (λ (x : QueueState). x.entries)) (back b.queues.items q queue read)) refl refl

queue_back : (b : Inside) (q : ℕ) (queue : QueueState) → queue ≡ get_or b.queues.items q queue → IsKept b → IsKept (with_queue b q queue)
queue_back b q queue read kept = record {
  marks = ap (map (λ (x : QueueState). x.marks)) (back b.queues.items q queue read) ∙ kept.marks;
  orderly = subst (λ x. IsOrderly x b.accounts) (sym (queue_back_board b q queue read)) kept.orderly;
}

worker_back_board : (b : Inside) (w : ℕ) (slot : Worker) → slot ≡ get_or b.workers.items w slot → board_inside (with_worker b w slot b.accounts) ≡ board_inside b
worker_back_board b w slot read =
    same_board b _ _ _ refl (ap (map (λ (x : Worker). x.entries)) (back b.workers.items w slot read)) (ap (map (λ (x : Worker). x.failures)) (back b.workers.items w slot read))

worker_back : (b : Inside) (w : ℕ) (slot : Worker) → slot ≡ get_or b.workers.items w slot → IsKept b → IsKept (with_worker b w slot b.accounts)
worker_back b w slot read kept = record { marks = kept.marks; orderly = subst (λ x. IsOrderly x b.accounts) (sym (worker_back_board b w slot read)) kept.orderly }

-- ---- the post of a worker's turn

module _ {b : Inside} {w list left : ℕ} {slot : Worker} (turn : IsTurn b w slot (occurrence.Post list) left) where
  abbrev plan : Plan
  plan = arc_value b.plan

  abbrev old : RelayState
  old = state_inside b

  abbrev board : BoardState
  board = board_inside b

  abbrev job : Job plan old w (occurrence.Post list)
  job = job_of b w slot (occurrence.Post list) left turn.is turn.next

  abbrev entry : Entry
  entry = turn.next.entry

  -- how posts into the list's queue wait
  abbrev waits : Flow
  waits = post_flow plan (queue_for plan list)

  -- its loss is guarded
  abbrev is_lost_guarded : Bool
  is_lost_guarded = is_guarded_loss plan (guard_of board) (Cause.Post list) entry

  abbrev moved : RelayState
  moved = advanced plan old w (occurrence.Post list) job

  pub left_to_count : HasPostLeft b.accounts
  left_to_count = post_left plan old w list b.accounts.totals turn.kept.orderly.shaped turn.kept.orderly.laws job

  moved_state : (worker : Worker) (account : Account) → IsAdvanced slot worker left → state_inside (with_worker b w worker account) ≡ moved
  moved_state worker account on = advanced_state b w slot worker (occurrence.Post list) left account turn.is turn.next on.entries on.failures

  module _ {q : ℕ} {queue : QueueState} (is : IsListQueue b list q queue) where
    -- nothing was changed but for room
    pub kept_back : (new : QueueState) (account : Account) → new ≡ queue → account ≡ b.accounts → IsKept (with_worker (with_queue b q new) w slot account)
    kept_back new account same counted =
        subst (λ x. IsKept (with_worker (with_queue b q x) w slot account)) (sym same)
        (subst (λ x. IsKept (with_worker (with_queue b q queue) w slot x)) (sym counted)
        (queue_back (with_worker b w slot b.accounts) q queue is.read (worker_back b w slot turn.is.read turn.kept)))

    board_back : board_inside (with_worker (with_queue b q queue) w slot b.accounts) ≡ board
    board_back = queue_back_board (with_worker b w slot b.accounts) q queue is.read ∙ worker_back_board b w slot turn.is.read

    -- ---- what holds the post

    -- nothing does
    abbrev IsFree : Type 0
    IsFree = (length queue.entries < queue.marks.size) × (is_delayed waits queue.marks (length queue.entries) ≡ false)

    -- the mark does, or the queue is full
    abbrev IsHeld : Type 0
    IsHeld = (is_delayed waits queue.marks (length queue.entries) ≡ true) ⊎ (queue.marks.size ≤ length queue.entries)

    has_room : IsFree → HasRoom plan old list
    has_room free = record { not_full = rw (is.marks, is.entries) at free.0; not_held = rw (is.marks, is.entries) at free.1 }

    -- ---- the entry is put to the end of the queue, or it is discarded

    module _ {node : Entry} (made : IsForPost board w node) where
      abbrev grown : RelayState
      grown = set_cell moved (Cell.Queue (queue_for plan list)) (at old (Cell.Queue (queue_for plan list)) ++ node ∷ [])

      posts : discards queue.marks node.message.class.severity (length queue.entries) ≡ false → IsFree → Posts plan old w list node false grown
      posts stays room = record {
        job = job;
        made = made list job;
        discarded = rw (is.marks, is.entries) at stays;
        room = inr (has_room room);
        after = refl;
      }

      posts_lost : discards queue.marks node.message.class.severity (length queue.entries) ≡ true → Posts plan old w list node true moved
      posts_lost lost = record { job = job; made = made list job; discarded = rw (is.marks, is.entries) at lost; room = inl refl; after = refl }

      -- the entry isn't discarded, and the mark holds the post, or the queue is full
      pub post_held : discards queue.marks node.message.class.severity (length queue.entries) ≡ false → IsHeld
          → PostIs (posted.Held node) board w node (board_inside (with_worker (with_queue b q queue) w slot b.accounts))
      post_held stays held = (refl, board_back, list, job, rw (is.marks, is.entries) at stays, rw (is.marks, is.entries) at held)

      pub post_full : discards queue.marks node.message.class.severity (length queue.entries) ≡ false → IsFree
          → ((b.accounts.totals.posted + 1 < 2 ^ 64) × (b.accounts.held_in_queues + 1 < 2 ^ 64) → ⊥) → PostFails fault.TotalsFull board w node
      post_full stays room full =
          let o = turn.kept.orderly in
          let same = account_post board w list node grown o.whole o.shaped (posts stays room) ∙ ap after_post (sym o.counted) in
          (list, false, grown, posts stays room, λ fits. let f : Fits (after_post b.accounts) = subst Fits same fits in full (f.posted, f.queues))

      module _ {worker : Worker} (on : IsAdvanced slot worker left) where
        module _ {new : QueueState} (longer : new ≡ record queue { entries = queue.entries ++ node ∷ [] }) {account : Account} (counted : account ≡ after_post b.accounts)
            (stays : discards queue.marks node.message.class.severity (length queue.entries) ≡ false) (room : IsFree) where
          abbrev after : Inside
          after = with_worker (with_queue b q new) w worker account

          grown_state : state_inside after ≡ grown
          grown_state =
              ap (λ (es : List (List Entry)). record (state_inside (with_worker b w worker account)) { queues = es }) (map-set (λ (x : QueueState). x.entries) b.queues.items q new)
              ∙ ap (λ (s : RelayState). set_cell s (Cell.Queue q) new.entries) (moved_state worker account on)
              ∙ ap (λ (k : ℕ). set_cell moved (Cell.Queue k) new.entries) is.number
              ∙ ap (set_cell moved (Cell.Queue (queue_for plan list))) (ap (λ (x : QueueState). x.entries) longer ∙ ap (λ (es : List Entry). es ++ node ∷ []) is.entries)

          sets_cells : Posts plan old w list node false (state_inside after)
          sets_cells = subst (Posts plan old w list node false) (sym grown_state) (posts stays room)

          account_after : account ≡ account_of (stepped board (Event.Post w) (state_inside after) [])
          account_after =
              let o = turn.kept.orderly in
              counted ∙ ap after_post o.counted ∙ sym (account_post board w list node (state_inside after) o.whole o.shaped sets_cells)

          board_is : board_inside after ≡ stepped board (Event.Post w) (state_inside after) []
          board_is = ap (λ (t : Totals). record (board_inside after) { totals = t }) (ap (λ (x : Account). x.totals) account_after)

          pub post_done : PostIs posted.Done board w node (board_inside after)
          post_done = (list, sets_cells, board_is)

          pub post_done_kept : IsKept after
          post_done_kept = record {
            marks =
                let marks = λ (x : QueueState). x.marks in
                map-set marks b.queues.items q new ∙ ap (set (map marks b.queues.items) q) (ap marks longer) ∙ sym (map-set marks b.queues.items q queue)
                ∙ ap (map marks) (back b.queues.items q queue is.read) ∙ turn.kept.marks;
            orderly =
                let before = subst (IsOrderly board) turn.kept.orderly.counted turn.kept.orderly in
                let next = orderly_step board before (Event.Post w) (state_inside after) [] (list, node, false, sets_cells, refl) in
                subst (λ x. IsOrderly x account) (sym board_is) (subst (IsOrderly (stepped board (Event.Post w) (state_inside after) [])) (sym account_after) next);
          }

        module _ {guarded : Bool} (marked : guarded ≡ is_lost_guarded) {account : Account} (counted : account ≡ after_lost_post guarded b.accounts)
            (lost : discards queue.marks node.message.class.severity (length queue.entries) ≡ true) where
          drops : Posts plan old w list node true (state_inside (with_worker b w worker account))
          drops = subst (Posts plan old w list node true) (sym (moved_state worker account on)) (posts_lost lost)

          account_less : account ≡ account_of (stepped board (Event.Post w) (state_inside (with_worker b w worker account)) (Out.Lost (Cause.Post list) drops.job.entry ∷ []))
          account_less =
              counted ∙ ap (λ (g : Bool). after_lost_post g b.accounts) marked ∙ ap (after_lost_post is_lost_guarded) turn.kept.orderly.counted
              ∙ ap (λ (e : Entry). after_lost_post (is_guarded_loss plan (guard_of board) (Cause.Post list) e) (account_of board))
              (jobs_same plan old w (occurrence.Post list) (occurrence.Post list) job drops.job).1
              ∙ sym (account_post_discarded board w list node (state_inside (with_worker b w worker account)) drops)

          pub post_discarded : PostIs (posted.Discarded node) board w node (board_inside (with_worker (with_queue b q queue) w worker account))
          post_discarded = subst (PostIs (posted.Discarded node) board w node) (sym (queue_back_board (with_worker b w worker account) q queue is.read))
              (refl, list, drops, board_after b w worker account (Event.Post w) (Out.Lost (Cause.Post list) drops.job.entry ∷ []) account_less)

          pub post_discarded_kept : IsKept (with_worker (with_queue b q queue) w worker account)
          post_discarded_kept = queue_back (with_worker b w worker account) q queue is.read
              (kept_after b w worker account (Event.Post w) (Out.Lost (Cause.Post list) drops.job.entry ∷ []) turn.kept (list, node, true, drops, refl) account_less)

      pub post_discarded_full : {guarded : Bool} → guarded ≡ is_lost_guarded → discards queue.marks node.message.class.severity (length queue.entries) ≡ true
          → (Fits (after_lost_post guarded b.accounts) → ⊥) → PostFails fault.TotalsFull board w node
      unfolding posts_lost
      post_discarded_full marked lost full =
          let same = account_post_discarded board w list node moved (posts_lost lost) ∙ ap (after_lost_post is_lost_guarded) (sym turn.kept.orderly.counted)
          ∙ ap (λ (g : Bool). after_lost_post g b.accounts) (sym marked) in
          (list, true, moved, posts_lost lost, λ fits. full (subst Fits same fits))

    -- ---- the post is lost

    -- why it is, where this holds it
    cause_of : (why : PostCause) (h : Hold) → HoldIs h waits queue.marks (length queue.entries) → may_lose why waits h ≡ true → MayBeLost plan old list (is_no_memory why)
    cause_of cause.Full hold.FullDelay holds may = cc
    cause_of cause.Full hold.Full holds may = record { full = rw (is.marks, is.entries) at holds.1; not_held = rw (is.marks, is.entries) at holds.0 }
    cause_of cause.Full hold.LightDelay holds may = cc
    cause_of cause.Full hold.Clear holds may = cc
    cause_of cause.NoMemory h holds may = never_waits waits h may

    no_cause_of : (why : PostCause) (h : Hold) → HoldIs h waits queue.marks (length queue.entries) → may_lose why waits h ≡ false → MayBeLost plan old list (is_no_memory why) → ⊥
    no_cause_of cause.Full h holds may lost =
        not_lost_by waits (marks_at plan (queue_for plan list)) (waiting old (queue_for plan list)) h (rw (is.marks, is.entries) at holds) may lost.full lost.not_held
    no_cause_of cause.NoMemory h holds may lost = lost (waits_by waits h may)

    pub post_not_lost : (why : PostCause) (h : Hold) → HoldIs h waits queue.marks (length queue.entries) → may_lose why waits h ≡ false → PostLostFails fault.NotExpired why board w
    post_not_lost why h holds may = (list, job, no_cause_of why h holds may)

    module _ (why : PostCause) (h : Hold) (holds : HoldIs h waits queue.marks (length queue.entries)) (may : may_lose why waits h ≡ true) {guarded : Bool} (marked : guarded ≡ is_lost_guarded) where
      loses : LosesPost plan old w list (is_no_memory why) entry moved
      loses = record {
        job = job;
        its = refl;
        cause = cause_of why h holds may;
        after = refl;
      }

      pub post_lost_full : (Fits (after_lost_post guarded b.accounts) → ⊥) → PostLostFails fault.TotalsFull why board w
      post_lost_full full =
          let same = account_post_lost board w list (is_no_memory why) entry moved loses ∙ ap (after_lost_post is_lost_guarded) (sym turn.kept.orderly.counted)
          ∙ ap (λ (g : Bool). after_lost_post g b.accounts) (sym marked) in
          (list, entry, moved, loses, λ fits. full (subst Fits same fits))

      module _ {worker : Worker} (on : IsAdvanced slot worker left) {account : Account} (counted : account ≡ after_lost_post guarded b.accounts) where
        loses_now : LosesPost plan old w list (is_no_memory why) entry (state_inside (with_worker b w worker account))
        loses_now = subst (LosesPost plan old w list (is_no_memory why) entry) (sym (moved_state worker account on)) loses

        account_lost : account ≡ account_of (stepped board (Event.PostLost w (is_no_memory why)) (state_inside (with_worker b w worker account)) (Out.Lost (Cause.PostLost list) entry ∷ []))
        account_lost =
            counted ∙ ap (λ (g : Bool). after_lost_post g b.accounts) marked ∙ ap (after_lost_post is_lost_guarded) turn.kept.orderly.counted
            ∙ sym (account_post_lost board w list (is_no_memory why) entry (state_inside (with_worker b w worker account)) loses_now)

        pub post_lost : PostLostIs why board w (board_inside (with_worker b w worker account))
        post_lost = (list, entry, loses_now, board_after b w worker account (Event.PostLost w (is_no_memory why)) (Out.Lost (Cause.PostLost list) entry ∷ []) account_lost)

        pub post_lost_kept : IsKept (with_worker b w worker account)
        post_lost_kept =
            kept_after b w worker account (Event.PostLost w (is_no_memory why)) (Out.Lost (Cause.PostLost list) entry ∷ []) turn.kept (list, entry, loses_now, refl) account_lost
