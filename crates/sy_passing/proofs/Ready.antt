-- What the steps of a board make of the states of a pass.
use Rattle.std.proofs.Common.{◌≡◌, ℕ, zero, suc, ◌+◌, ◌<◌, ◌≤◌, ◌^◌, Bool, true, false, List, [], ◌∷◌, length, map, inl, inr, eqb-true, refl, sym, subst, ap, ◌∙◌, arith, Some, None, Result, Ok, Err}
use Rattle.std.specs.Prelude.{IfOk, ◌↔◌, ◌==◌, ◌||◌, slice_get}
use Rattle.std.specs.Arc.{arc_value}
use Rattle.std.specs.Int.{bit_at}
use Rattle.std.proofs.lemmas.List.Elements.{All-from_recursion}
use Rattle.std.proofs.lemmas.Nat.Bits.{bit_at-pow_other, bit_at-zero}
use Rattle.sy_wire.specs.Messages.{Said}
use Rattle.sy_chain.specs.Entries.{Entry}
use Rattle.sy_marks.specs.declared.marks.Hold.TheVariants as hold
use Rattle.sy_rules.specs.declared.lists.occurrence.Occurrence.TheVariants as occurrence
use Rattle.sy_rules.specs.lists.Sets.{IsLowest}
use Rattle.sy_rules.specs.lists.Work.{Due}
use Rattle.sy_rules.specs.Whole.{body_at}
use Rattle.sy_rules.specs.parameters.Objects.{number_of, queue_parameters, word_of}
use Rattle.sy_rules.specs.parameters.Rows.{own_rows, destination_rows, queue_head_rows, queue_rest_rows}
use Rattle.sy_rules.specs.PassPlan as pass
use Rattle.sy_rules.specs.PlanValue.{Plan}
use Rattle.sy_rules.proofs.lemmas.lists.Lowest.{one_left}
use Rattle.sy_board.specs.declared.fault.BoardFault.{BoardFault}
use Rattle.sy_board.specs.declared.fault.BoardFault.TheVariants as fault
use Rattle.sy_board.specs.declared.relay.answers.Taken.{Taken}
use Rattle.sy_board.specs.declared.relay.answers.Taken.TheVariants as taken
use Rattle.sy_board.specs.declared.relay.answers.Entry.{Entry as EnterAnswer}
use Rattle.sy_board.specs.declared.relay.answers.Entry.TheVariants as entry
use Rattle.sy_board.specs.declared.relay.answers.Job.{Job as JobAnswer}
use Rattle.sy_board.specs.declared.relay.answers.Job.TheVariants as job
use Rattle.sy_actions.specs.Devices.{Delivered}
use Rattle.sy_board.specs.relay.Boards.{BoardState, EnterFails, EnterIs, Fits, GrabFails, GrabIs, HasNoJob, Is64, JobIs, LeftIs, SettleFails, SettleIs, TakeFails, TakeIs, account_of, opened, stepped}
use Rattle.sy_board.specs.relay.Cells.{Cell, RelayState, at, opening, set_cell, set_failures}
use Rattle.sy_board.specs.relay.Plans.{IsDue, occurrences_at}
use Rattle.sy_board.specs.relay.Steps.{Cause, Enters, Event, Grabs, IsOfInput, Job, Out, Settles, Takes, if_so, still}
use Rattle.sy_passing.specs.Stops.{IsIdle, IsReady}
use Rattle.sy_passing.specs.internal.Ways.{IsReceiptOf, in_hand, queued}
use Rattle.sy_passing.specs.Ways.{IsEntry, board_of, entry_of, idle, plan, ready, totals_of}

-- ---- the plan

pub plan_is : pass.plan ≡ plan
unfolding queue_parameters number_of word_of own_rows destination_rows queue_head_rows queue_rest_rows
plan_is = refl

pub opens : {E : Type 0} (r : Result BoardState E) (p : Plan) → p ≡ pass.plan → IfOk r (λ b. b ≡ opened p None) → IfOk r (λ b. b ≡ idle 0)
opens (Ok b) p same is = is ∙ ap (λ (x : Plan). opened x None) (same ∙ plan_is)
opens (Err e) p same is = tt

or_false : (b : Bool) → (b || false) ≡ true → b ≡ true
or_false true is = refl
or_false false is = is

-- the one occurrence is due
pub is_due : (m : Said) → IsDue plan 0 m 1
is_due m = λ k. go k
  where
    go : (k : ℕ) → (bit_at 1 k ≡ 1) ↔ Due (body_at plan 0) m k
    go zero = (λ _. refl, λ _. refl)
    go (suc k) = (λ is. absurd (let none : bit_at 1 (suc k) ≡ 0 = bit_at-pow_other 0 (suc k) (λ e. absurd (omega (arith, e))) in omega (arith, is, none)), λ is. absurd (let same : 0 ≡ suc k = eqb-true 0 (suc k) (or_false (0 == suc k) is) in omega (arith, same)))

pub made : (m : Said) → IsOfInput plan 0 (entry_of m)
made m = record { input_is = refl; list = refl; due = is_due m }

-- ---- totals

fits : (a b c hands queues : ℕ) → Is64 a → Is64 b → Is64 c → Is64 hands → Is64 queues → Fits (record { totals = totals_of a b c; held_in_hands = hands; held_in_queues = queues })
fits a b c hands queues fa fb fc fh fq = record {
  taken = fa;
  lost_in = omega arith;
  posted = omega arith;
  lost_post = omega arith;
  grabbed = fb;
  lost_out = omega arith;
  guarded_lost = omega arith;
  hands = fh;
  queues = fq;
  actions = All-from_recursion (λ c. Is64 c.done × Is64 c.given_up) (record { due = b; done = c; given_up = 0 } ∷ []) ((fc, omega arith), tt);
}

pub in_hand_fits : (n : ℕ) (m : Said) → n + 1 < 2 ^ 64 → Fits (account_of (in_hand n m))
in_hand_fits n m room = fits (n + 1) n n 1 0 room (omega arith) (omega arith) (omega arith) (omega arith)

pub queued_fits : (n : ℕ) (m : Said) → n + 1 < 2 ^ 64 → Fits (account_of (queued n m))
queued_fits n m room = fits (n + 1) n n 0 1 room (omega arith) (omega arith) (omega arith) (omega arith)

pub ready_fits : (n : ℕ) (m : Said) → n + 1 < 2 ^ 64 → Fits (account_of (ready n m))
ready_fits n m room = fits (n + 1) (n + 1) n 0 0 room room (omega arith) (omega arith) (omega arith)

pub idle_fits : (n : ℕ) → n < 2 ^ 64 → Fits (account_of (idle n))
idle_fits n room = fits n n n 0 0 room room room (omega arith) (omega arith)

-- ---- take

takes : (n : ℕ) (m : Said) (lost : Bool) (s : RelayState) → Takes plan (opening plan) 0 0 (entry_of m) lost s
    → (lost ≡ false) × (stepped (idle n) (Event.Take 0 0 (entry_of m)) s (if_so lost (Out.Lost Cause.Take (entry_of m))) ≡ in_hand n m)
takes n m true s t = absurd (let no : false ≡ true = t.discarded in cc)
takes n m false s t = (refl, ap (λ s. stepped (idle n) (Event.Take 0 0 (entry_of m)) s []) t.after)

pub took : (n : ℕ) (m : Said) (t : Taken) (new : BoardState) → TakeIs t (idle n) 0 0 (entry_of m) new → (t ≡ taken.InHand) × (new ≡ in_hand n m)
took n m taken.InHand new h = (refl, h.1 ∙ (takes n m false new.state h.0).1)
took n m (taken.Discarded lost) new h = absurd (let no = (takes n m true new.state h.1).0 in cc)

pub takes_it : (n : ℕ) (m : Said) (f : BoardFault) → n + 1 < 2 ^ 64 → TakeFails f (idle n) 0 0 (entry_of m) → ⊥
takes_it n m fault.HandTaken room h = h refl
takes_it n m fault.TotalsFull room h = h.3 (subst (λ (b : BoardState). Fits (account_of b)) (sym (takes n m h.0 h.1 h.2).1) (in_hand_fits n m room))
takes_it n m _ room h = h

-- ---- enter

enters : (n : ℕ) (m : Said) (node : Entry) (s : RelayState) → Enters plan (in_hand n m).state 0 0 node s → stepped (in_hand n m) (Event.Enter 0 0) s [] ≡ queued n m
enters n m node s e =
    let same : node ≡ entry_of m = (let held = e.leaves.held in cc) in
    ap (λ s. stepped (in_hand n m) (Event.Enter 0 0) s []) e.after ∙ ap (λ (x : Entry). board_of (totals_of (n + 1) n n) (set_cell (opening plan) (Cell.Queue 0) (x ∷ []))) same

pub entered : (n : ℕ) (m : Said) (a : EnterAnswer) (new : BoardState) → EnterIs a (in_hand n m) 0 0 new → (a ≡ entry.Entered) × (new ≡ queued n m)
entered n m entry.Entered new h = (refl, h.2 ∙ enters n m h.0 new.state h.1)
entered n m (entry.Held hold.FullDelay) new h = absurd (let no : false ≡ true = h.2 in cc)
entered n m (entry.Held hold.Full) new h = absurd (let no : 50000 ≤ 0 = h.2.1 in omega (arith, no))
entered n m (entry.Held _) new h = absurd h.2

pub enters_it : (n : ℕ) (m : Said) (f : BoardFault) → n + 1 < 2 ^ 64 → EnterFails f (in_hand n m) 0 0 → ⊥
enters_it n m fault.HandEmpty room h = (let no : entry_of m ∷ [] ≡ [] = h in cc)
enters_it n m fault.TotalsFull room h = h.3 (subst (λ (b : BoardState). Fits (account_of b)) (sym (enters n m h.0 h.1 h.2)) (queued_fits n m room))
enters_it n m _ room h = h

-- ---- grab

grabs : (n : ℕ) (m : Said) (lost : List Entry) (s : RelayState) → Grabs plan (queued n m).state 0 lost s
    → stepped (queued n m) (Event.Grab 0) s (map (Out.Lost Cause.Grab) lost) ≡ ready n m
grabs n m lost s g =
    ap (λ s. stepped (queued n m) (Event.Grab 0) s (map (Out.Lost Cause.Grab) lost)) g.after
    ∙ ap (λ (l : List Entry). stepped (queued n m) (Event.Grab 0) (ready n m).state (map (Out.Lost Cause.Grab) l)) g.lost_are

pub grabbed : (n : ℕ) (m : Said) (count : ℕ) (lost : List Entry) (new : BoardState) → GrabIs count lost (queued n m) 0 new → new ≡ ready n m
grabbed n m count lost new (inl h) = absurd (let no : 1 ≡ 0 = h.1.none in omega (arith, no))
grabbed n m count lost new (inr h) = h.2 ∙ grabs n m lost new.state h.0

pub grabs_it : (n : ℕ) (m : Said) (f : BoardFault) → n + 1 < 2 ^ 64 → GrabFails f (queued n m) 0 → ⊥
grabs_it n m fault.SlotBusy room h = h refl
grabs_it n m fault.TotalsFull room h = h.3 (subst (λ (b : BoardState). Fits (account_of b)) (sym (grabs n m h.0 h.1 h.2)) (ready_fits n m room))
grabs_it n m _ room h = h

-- ---- the worker's job

lowest_of_one : IsLowest 1 0 0
lowest_of_one = record {
  member = refl;
  lowest = λ k l. absurd (omega (arith, l));
  gone = refl;
  others = λ k n. bit_at-zero k ∙ sym (bit_at-pow_other 0 k n);
}

job_of : (n : ℕ) (m : Said) → Job plan (ready n m).state 0 (occurrence.Run 0)
job_of n m = record {
  there = omega arith;
  entry = entry_of m;
  others = [];
  held = refl;
  number = 0;
  left = 0;
  first = lowest_of_one;
  found = refl;
}

pub has_job : (n : ℕ) (m : Said) → HasNoJob (ready n m) 0 → ⊥
has_job n m none = none (occurrence.Run 0) (job_of n m)

no_post : (number list : ℕ) → slice_get (occurrence.Run 0 ∷ []) number ≡ Some (occurrence.Post list) → ⊥
no_post zero list found = cc
no_post (suc number) list found = cc

-- the answer is to run an action on this message
abbrev pub IsRunOf : Said → JobAnswer → Type 0
IsRunOf m (job.Run action message tag) = arc_value message.now ≡ m
IsRunOf m (job.Post list input message tag) = ⊥

pub runs : (n : ℕ) (m : Said) (a : JobAnswer) → JobIs a (ready n m) 0 → IsRunOf m a
runs n m (job.Run action message tag) h =
    let same : h.0.entry ≡ entry_of m = (let held = h.0.held in cc) in
    h.1 ∙ ap (λ (e : Entry). e.message) same
runs n m (job.Post list input message tag) h =
    let same : h.0.entry ≡ entry_of m = (let held = h.0.held in cc) in
    no_post h.0.number list (subst (λ (e : Entry). slice_get (occurrences_at plan e.list) h.0.number ≡ Some (occurrence.Post list)) same h.0.found)

-- ---- settle

first_run : (number action : ℕ) → slice_get (occurrence.Run 0 ∷ []) number ≡ Some (occurrence.Run action) → (number ≡ 0) × (action ≡ 0)
first_run zero action found = (refl, cc)
first_run (suc number) action found = absurd cc

settles : (n : ℕ) (m : Said) (action : ℕ) (node : Entry) (s : RelayState) → Settles plan (ready n m).state 0 action node s
    → stepped (ready n m) (Event.Done 0) s (Out.Passed action node ∷ []) ≡ idle (n + 1)
settles n m action node s t =
    let same : t.job.entry ≡ entry_of m = (let held = t.job.held in cc) in
    let alone : t.job.others ≡ [] = (let held = t.job.held in cc) in
    let first = first_run t.job.number action (subst (λ (e : Entry). slice_get (occurrences_at plan e.list) t.job.number ≡ Some (occurrence.Run action)) same t.job.found) in
    let left : t.job.left ≡ 0 = one_left 1 t.job.number 0 t.job.left 0 (subst (λ (e : Entry). IsLowest e.due t.job.number t.job.left) same t.job.first) lowest_of_one in
    ap (λ s. stepped (ready n m) (Event.Done 0) s (Out.Passed action node ∷ [])) t.after
    ∙ ap (λ (x : ℕ). stepped (ready n m) (Event.Done 0) (set_failures (set_cell (ready n m).state (Cell.Worker 0) (still t.job.entry x t.job.others)) 0 0) (Out.Passed action node ∷ [])) left
    ∙ ap (λ (es : List Entry). stepped (ready n m) (Event.Done 0) (set_failures (set_cell (ready n m).state (Cell.Worker 0) es) 0 0) (Out.Passed action node ∷ [])) alone
    ∙ ap (λ (x : ℕ). stepped (ready n m) (Event.Done 0) (opening plan) (Out.Passed x node ∷ [])) first.1

pub settled : (n : ℕ) (m : Said) (r : Delivered) (new : BoardState) → SettleIs (ready n m) 0 r new → new ≡ idle (n + 1)
settled n m r new h = h.2 ∙ settles n m r.device h.0.run.entry new.state h.1

pub settles_it : (n : ℕ) (m : Said) (f : BoardFault) → n + 1 < 2 ^ 64 → SettleFails f (ready n m) 0 (record { device = 0; message = m }) → ⊥
unfolding job_of
settles_it n m fault.NoJob room h = h 0 (job_of n m)
settles_it n m fault.WrongReceipt room h = h.1 (record { run = job_of n m; its = refl })
settles_it n m fault.TotalsFull room h = h.3 (subst (λ (b : BoardState). Fits (account_of b)) (sym (settles n m 0 h.0.run.entry h.1 h.2)) (idle_fits (n + 1) room))
settles_it n m _ room h = h

-- ---- on any board that is in such a state

pub made_of : (b : BoardState) (node : Entry) → IsIdle b → IsEntry node → IsOfInput b.plan 0 node
made_of b node is entry = subst (λ (p : Plan). IsOfInput p 0 node) (sym (ap (λ (x : BoardState). x.plan) is)) (subst (λ (e : Entry). IsOfInput plan 0 e) (sym entry) (made node.message))

pub board_in_hand : (b new : BoardState) (node : Entry) (t : Taken) → IsIdle b → IsEntry node → TakeIs t b 0 0 node new → new ≡ in_hand b.totals.taken node.message
board_in_hand b new node t is entry h = (took b.totals.taken node.message t new (subst (λ (e : Entry). TakeIs t (idle b.totals.taken) 0 0 e new) entry (subst (λ (x : BoardState). TakeIs t x 0 0 node new) is h))).1

pub board_queued : (b new : BoardState) (n : ℕ) (m : Said) (a : EnterAnswer) → b ≡ in_hand n m → EnterIs a b 0 0 new → new ≡ queued n m
board_queued b new n m a is h = (entered n m a new (subst (λ (x : BoardState). EnterIs a x 0 0 new) is h)).1

pub board_ready : (b new : BoardState) (n : ℕ) (m : Said) (count : ℕ) (lost : List Entry) → b ≡ queued n m → GrabIs count lost b 0 new → IsReady new m.raw
board_ready b new n m count lost is h = record {
  before = n;
  message = m;
  board = grabbed n m count lost new (subst (λ (x : BoardState). GrabIs count lost x 0 new) is h);
  text = refl;
}

pub enter_refused : (b : BoardState) (n : ℕ) (m : Said) (f : BoardFault) → n + 1 < 2 ^ 64 → b ≡ in_hand n m → EnterFails f b 0 0 → ⊥
enter_refused b n m f room is h = enters_it n m f room (subst (λ (x : BoardState). EnterFails f x 0 0) is h)

pub grab_refused : (b : BoardState) (n : ℕ) (m : Said) (f : BoardFault) → n + 1 < 2 ^ 64 → b ≡ queued n m → GrabFails f b 0 → ⊥
grab_refused b n m f room is h = grabs_it n m f room (subst (λ (x : BoardState). GrabFails f x 0) is h)

pub job_there : (b : BoardState) (raw : List ℕ) → IsReady b raw → HasNoJob b 0 → ⊥
job_there b raw r none = has_job r.before r.message (subst (λ (x : BoardState). HasNoJob x 0) r.board none)

pub settle_done : (b : BoardState) (r : Delivered) (f : BoardFault) (n : ℕ) → n + 1 < 2 ^ 64 → b.totals.taken ≡ n + 1 → IsReceiptOf b r → SettleFails f b 0 r → ⊥
settle_done b r f n room count is h =
    let same : b.totals.taken ≡ is.before + 1 = ap (λ (x : BoardState). x.totals.taken) is.board_is in
    settles_it is.before is.message f (omega (arith, same, count))
    (subst (λ (x : Delivered). SettleFails f (ready is.before is.message) 0 x) is.receipt_is (subst (λ (x : BoardState). SettleFails f x 0 r) is.board_is h))

pub idle_after : (b new : BoardState) (raw : List ℕ) (rc : Delivered) → IsReady b raw → SettleIs b 0 rc new → (new ≡ idle new.totals.taken) × (new.totals.taken ≡ b.totals.taken)
idle_after b new raw rc r h =
    let is = settled r.before r.message rc new (subst (λ (x : BoardState). SettleIs x 0 rc new) r.board h) in
    let same : b.totals.taken ≡ r.before + 1 = ap (λ (x : BoardState). x.totals.taken) r.board in
    let count : new.totals.taken ≡ r.before + 1 = ap (λ (x : BoardState). x.totals.taken) is in
    (is ∙ ap idle (sym count), count ∙ sym same)

pub node_leaves : (b new : BoardState) (raw : List ℕ) (rc : Delivered) → IsReady b raw → SettleIs b 0 rc new → LeftIs None b.state 0 new.state → ⊥
node_leaves b new raw rc r h left =
    let is = settled r.before r.message rc new (subst (λ (x : BoardState). SettleIs x 0 rc new) r.board h) in
    let one : length (at b.state (Cell.Worker 0)) ≡ 1 = ap (λ (x : BoardState). length (at x.state (Cell.Worker 0))) r.board in
    let none : length (at new.state (Cell.Worker 0)) ≡ 0 = ap (λ (x : BoardState). length (at x.state (Cell.Worker 0))) is in
    omega (arith, left, one, none)

pub idle_first : (b : BoardState) → b ≡ idle 0 → IsIdle b
idle_first b is = is ∙ ap idle (sym (ap (λ (x : BoardState). x.totals.taken) is))
