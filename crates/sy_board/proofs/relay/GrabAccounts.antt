-- What a grab counts, in two steps: the entries that left the queue, and then what the kept ones have due.
use Rattle.std.proofs.Common.{◌≡◌, ℕ, ◌+◌, ◌-◌, ◌<◌, ◌≤◌, Bool, true, false, if◌then◌else◌, List, [], ◌∷◌, length, drop, refl, ap, ◌∙◌, arith, All, length-drop, get_or, nat_le, leb-true, leb-false}
use Rattle.std.specs.Prelude.{◌^◌, min}
use Rattle.std.proofs.lemmas.List.{length-map, get_or_past}
use Rattle.sy_chain.specs.Entries.{Entry}
use Rattle.sy_marks.specs.Marks.{front_where, is_kept, kept_of, lost_of}
use Rattle.sy_rules.specs.PlanValue.{Plan}
use Rattle.sy_rules.specs.Whole.{IsWhole}
use Rattle.sy_board.specs.relay.Boards.{Account, BoardState, Fits, Is64, account_of, guard_of, stepped}
use Rattle.sy_board.specs.relay.Cells.{Cell, RelayState, at, set_cell, waiting}
use Rattle.sy_board.specs.relay.Plans.{marks_at, parameters_at, queue_of_worker}
use Rattle.sy_board.specs.relay.Steps.{Cause, Event, Out}
use Rattle.sy_board.specs.relay.Totals.{Counts, counts_at, due_for, guarded_losses, in_queues, is_post, is_run_of, no_counts, with_due}
use Rattle.sy_board.specs.internal.Counting.{HasRoomFor, after_grab, became_due}
use Rattle.sy_board.specs.internal.Kept.{IsOrderly}
use Rattle.sy_board.proofs.relay.AccountLaws.{total_set}
use Rattle.sy_board.proofs.relay.Bounds.{all_first, all_later, due_for_few, left_of_few}
use Rattle.sy_board.proofs.relay.Losses.{losses_of}
use Rattle.sy_board.proofs.relay.SetCells.{set_same}

-- what a worker's grab keeps, what is lost, and how many entries leave the queue
abbrev pub kept_by : Plan → RelayState → ℕ → List Entry
kept_by plan old worker = kept_of (marks_at plan (queue_of_worker plan worker))
    (parameters_at plan (queue_of_worker plan worker)).batch (at old (Cell.Queue (queue_of_worker plan worker)))

abbrev pub lost_by : Plan → RelayState → ℕ → List Entry
lost_by plan old worker = lost_of (marks_at plan (queue_of_worker plan worker))
    (parameters_at plan (queue_of_worker plan worker)).batch (at old (Cell.Queue (queue_of_worker plan worker)))

abbrev pub count_by : Plan → RelayState → ℕ → ℕ
count_by plan old worker = min (parameters_at plan (queue_of_worker plan worker)).batch (waiting old (queue_of_worker plan worker))

-- the state after it
abbrev pub grabbed_state : Plan → RelayState → ℕ → RelayState
grabbed_state plan old worker = set_cell
    (set_cell old (Cell.Queue (queue_of_worker plan worker))
    (drop (parameters_at plan (queue_of_worker plan worker)).batch (at old (Cell.Queue (queue_of_worker plan worker)))))
    (Cell.Worker worker) (kept_by plan old worker)

-- the board after it
abbrev pub grabbed : BoardState → ℕ → BoardState
grabbed board worker =
    stepped board (Event.Grab worker) (grabbed_state board.plan board.state worker) (losses_of (lost_by board.plan board.state worker))

-- its account, but for what the kept entries have due
abbrev pub grab_counted : BoardState → ℕ → Account
grab_counted board worker = after_grab (count_by board.plan board.state worker) (length (lost_by board.plan board.state worker))
    (guarded_losses board.plan (guard_of board) (losses_of (lost_by board.plan board.state worker))) (account_of board)

module _ (board : BoardState) (worker : ℕ) (there : worker < length board.state.workers)
    (queue_there : queue_of_worker board.plan worker < length board.state.queues) where
  fewer_in_queues : in_queues (grabbed_state board.plan board.state worker) ≡ in_queues board.state - count_by board.plan board.state worker
  fewer_in_queues =
      let q = queue_of_worker board.plan worker in
      let es = at board.state (Cell.Queue q) in
      let n = (parameters_at board.plan q).batch in
      let a = total_set length board.state.queues q (drop n es) [] queue_there in
      let b = length-drop n es in
      omega (arith, a, b)

  pub enough_in_queues : count_by board.plan board.state worker ≤ in_queues board.state
  enough_in_queues =
      let q = queue_of_worker board.plan worker in
      let es = at board.state (Cell.Queue q) in
      let n = (parameters_at board.plan q).batch in
      let a = total_set length board.state.queues q (drop n es) [] queue_there in
      let b = length-drop n es in
      omega (arith, a, b)

  has_kept : at (grabbed_state board.plan board.state worker) (Cell.Worker worker) ≡ kept_by board.plan board.state worker
  has_kept = set_same board.state.workers worker (kept_by board.plan board.state worker) [] there

  pub grab_account : account_of (grabbed board worker) ≡ became_due board.plan (kept_by board.plan board.state worker) (grab_counted board worker)
  grab_account =
      let t = board.totals in
      let outs = losses_of (lost_by board.plan board.state worker) in
      let account : ℕ → ℕ → List Entry → Account = λ lost held kept. record {
        totals = record t {
          grabbed = t.grabbed + count_by board.plan board.state worker;
          lost_out = t.lost_out + lost;
          guarded_lost = t.guarded_lost + guarded_losses board.plan (guard_of board) outs;
          posts_due = t.posts_due + due_for board.plan is_post kept;
          actions = with_due (λ action. due_for board.plan (is_run_of action) kept) 0 t.actions;
        };
        held_in_hands = (account_of board).held_in_hands;
        held_in_queues = held;
      } in
      let many : length outs ≡ length (lost_by board.plan board.state worker) = length-map (lost_by board.plan board.state worker) (Out.Lost Cause.Grab) in
      ap (λ n. account n (in_queues (grabbed_state board.plan board.state worker)) (at (grabbed_state board.plan board.state worker) (Cell.Worker worker))) many
      ∙ ap (λ n. account (length (lost_by board.plan board.state worker)) n (at (grabbed_state board.plan board.state worker) (Cell.Worker worker))) fewer_in_queues
      ∙ ap (λ es. account (length (lost_by board.plan board.state worker)) (in_queues board.state - count_by board.plan board.state worker) es) has_kept

-- ---- numbers of 64 bits

abbrev Small : Counts → Type 0
Small c = Is64 c.done × Is64 c.given_up

-- how many became due isn't asked
small_before : (more : ℕ → ℕ) (k : ℕ) (cs : List Counts) → All Small (with_due more k cs) → All Small cs
small_before more k [] all = λ j d l. absurd (omega (arith, l))
small_before more k (c ∷ cs) all =
    let first = all_first Small (record c { due = c.due + more k }) (with_due more (ℕ.suc k) cs) all in
    let later = small_before more (ℕ.suc k) cs (all_later Small (record c { due = c.due + more k }) (with_due more (ℕ.suc k) cs) all) in
    go (first.0, first.1) later
  where
    go : Small c → All Small cs → (j : ℕ) (d : Counts) → j < ℕ.suc (length cs) → Small (get_or (c ∷ cs) j d)
    go first later ℕ.zero d l = first
    go first later (ℕ.suc j) d l = later j d (omega (arith, l))

pub fits_before : (plan : Plan) (es : List Entry) (a : Account) → Fits (became_due plan es a) → Fits a
fits_before plan es a fits = record {
  taken = fits.taken;
  lost_in = fits.lost_in;
  posted = fits.posted;
  lost_post = fits.lost_post;
  grabbed = fits.grabbed;
  lost_out = fits.lost_out;
  guarded_lost = fits.guarded_lost;
  hands = fits.hands;
  queues = fits.queues;
  actions = small_before (λ action. due_for plan (is_run_of action) es) 0 a.totals.actions fits.actions;
}

-- ---- room for what the kept entries have due

front_few : (test : Entry → ℕ → Bool) (n : ℕ) (es : List Entry) → length (front_where test n es) ≤ n
front_few test ℕ.zero es = omega arith
front_few test (ℕ.suc n) [] = omega arith
front_few test (ℕ.suc n) (e ∷ es) = let rest = front_few test n es in go (test e (length es)) rest
  where
    go : (b : Bool) → length (front_where test n es) ≤ n → length (if b then e ∷ front_where test n es else front_where test n es) ≤ ℕ.suc n
    go true rest = omega (arith, rest)
    go false rest = omega (arith, rest)

kept_few : (plan : Plan) (old : RelayState) (worker : ℕ) → IsWhole plan → queue_of_worker plan worker < length plan.queues → length (kept_by plan old worker) ≤ 65536
kept_few plan old worker whole l =
    let q = queue_of_worker plan worker in
    let a : (parameters_at plan q).batch ≤ 65536 = (whole.queue_ranges q _ l).batch_most in
    let b = front_few (is_kept (marks_at plan q)) (parameters_at plan q).batch (at old (Cell.Queue q)) in
    omega (arith, a, b)

pub room_for_kept : (board : BoardState) (account : Account) (worker : ℕ) → IsOrderly board account → queue_of_worker board.plan worker < length board.plan.queues
    → HasRoomFor board.plan (kept_by board.plan board.state worker) (grab_counted board worker)
room_for_kept board account worker o l =
    let few = kept_few board.plan board.state worker o.whole l in
    let kept = kept_by board.plan board.state worker in
    record {
      posts =
          let a = o.laws.posts in
          let b = left_of_few board account o is_post in
          let c = due_for_few board.plan is_post kept o.whole in
          omega (arith, a, b, c, few);
      runs = λ action. go action (nat_le (ℕ.suc action) (length board.totals.actions)) refl few;
    }
  where
    go : (action : ℕ) (b : Bool) → nat_le (ℕ.suc action) (length board.totals.actions) ≡ b → length (kept_by board.plan board.state worker) ≤ 65536
        → (counts_at board.totals.actions action).due + due_for board.plan (is_run_of action) (kept_by board.plan board.state worker)
        < (counts_at board.totals.actions action).done + (counts_at board.totals.actions action).given_up + 2 ^ 64
    go action true e few =
        let a = o.laws.runs action (omega (arith, leb-true (ℕ.suc action) (length board.totals.actions) e)) in
        let b = left_of_few board account o (is_run_of action) in
        let c = due_for_few board.plan (is_run_of action) (kept_by board.plan board.state worker) o.whole in
        omega (arith, a, b, c, few)
    go action false e few =
        let past : length board.totals.actions ≤ action = omega (arith, leb-false (ℕ.suc action) (length board.totals.actions) e) in
        let a : (counts_at board.totals.actions action).due ≡ 0 = ap (λ (x : Counts). x.due) (get_or_past board.totals.actions action no_counts past) in
        let c = due_for_few board.plan (is_run_of action) (kept_by board.plan board.state worker) o.whole in
        omega (arith, a, c, few)
