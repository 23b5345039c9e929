-- Each step keeps the laws of accounts.
use Rattle.std.proofs.Common.{◌≡◌, ℕ, ◌+◌, ◌*◌, ◌<◌, ◌≤◌, ◌==◌, Bool, true, false, if◌then◌else◌, List, [], ◌∷◌, ◌++◌, length, drop, refl, sym, subst, ap, ◌∙◌, arith, get_or, replicate, set, Some, length-append, length-drop}
use Rattle.std.specs.Prelude.{slice_get}
use Rattle.std.specs.Int.{bit_at}
use Rattle.std.proofs.lemmas.Nat.Bits.{bit_at-zero}
use Rattle.std.proofs.lemmas.List.{get_or-set_same, get_or-set_other}
use Rattle.std.proofs.lemmas.Bool.{eqb-true, eqb-false}
use Rattle.sy_chain.specs.Entries.{Entry}
use Rattle.sy_marks.specs.Marks.{kept_of}
use Rattle.sy_rules.specs.declared.lists.occurrence.Occurrence.{Occurrence}
use Rattle.sy_rules.specs.declared.lists.occurrence.Occurrence.TheVariants as occurrence
use Rattle.sy_rules.specs.lists.Sets.{IsLowest}
use Rattle.sy_rules.specs.PlanValue.{Plan}
use Rattle.sy_board.specs.relay.Cells.{Cell, IsShaped, RelayState, at, opening, set_cell, hand}
use Rattle.sy_board.specs.relay.Plans.{marks_at, occurrences_at, parameters_at, queue_of_input, queue_of_worker}
use Rattle.sy_board.specs.relay.Steps.{Cause, Enters, Event, Expires, Fails, GivesUp, Grabs, Job, LosesPost, Out, Posts, Settles, Step, Takes, advanced, if_so, still}
use Rattle.sy_board.specs.relay.Totals.{Counts, GuardState, Laws, Totals, counted, counted_by, counts_at, counts_done, counts_given_up, due_for, due_of, in_hands, in_queues, is_post, is_run_of, left_of, no_counts, nothing_counted, total, with_due}
use Rattle.sy_rules.specs.Whole.{IsWhole, queue_for}
use Rattle.sy_board.proofs.relay.There.{hand_there, input_queue_there, list_queue_there, worker_queue_there, worker_there}
use Rattle.sy_board.proofs.relay.SetCells.{at_set, if_elim, set_length}

pub total_set : {A : Type 0} (f : A → ℕ) (xs : List A) (k : ℕ) (v d : A) → k < length xs → total f (set xs k v) + f (get_or xs k d) ≡ total f xs + f v
total_set f [] k v d l = absurd (omega arith)
total_set f (x ∷ xs) ℕ.zero v d l = omega arith
total_set f (x ∷ xs) (ℕ.suc k) v d l = let m : k < length xs = omega arith in let e = total_set f xs k v d m in omega (arith, e)

-- ---- what a change of one place does to the counts

pub hand_sum : (part : RelayState) (k : ℕ) (es : List Entry) → k < length part.hands → in_hands (set_cell part (Cell.Hand k) es) + length (at part (Cell.Hand k)) ≡ in_hands part + length es
hand_sum part k es l = total_set length part.hands k es [] l

pub queue_sum : (part : RelayState) (k : ℕ) (es : List Entry) → k < length part.queues → in_queues (set_cell part (Cell.Queue k) es) + length (at part (Cell.Queue k)) ≡ in_queues part + length es
queue_sum part k es l = total_set length part.queues k es [] l

pub worker_sum : (plan : Plan) (f : Occurrence → Bool) (part : RelayState) (w : ℕ) (es : List Entry) → w < length part.workers
    → left_of plan f (set_cell part (Cell.Worker w) es) + due_for plan f (at part (Cell.Worker w)) ≡ left_of plan f part + due_for plan f es
worker_sum plan f part w es l = total_set (due_for plan f) part.workers w es [] l

-- ---- one occurrence due less

due_same : (f : Occurrence → Bool) (os : List Occurrence) (due left k : ℕ) → ((j : ℕ) → k ≤ j → bit_at left j ≡ bit_at due j) → due_of f os left k ≡ due_of f os due k
due_same f [] due left k same = refl
due_same f (o ∷ os) due left k same = rw (same k (omega arith), due_same f os due left (ℕ.suc k) (λ j l. same j (omega arith))) refl

some_same : (p o : Occurrence) → Some p ≡ Some o → p ≡ o
some_same p o e = cc

pub due_less : (f : Occurrence → Bool) (os : List Occurrence) (due left number n k : ℕ) (o : Occurrence) → k + n ≡ number → slice_get os n ≡ Some o → IsLowest due number left
    → due_of f os due k ≡ (if f o then 1 else 0) + due_of f os left k
due_less f [] due left number n k o is there first = cc
due_less f (p ∷ os) due left number ℕ.zero k o is there first =
    let same : p ≡ o = some_same p o there in
    let now : k ≡ number = omega arith in
    let rest : due_of f os left (ℕ.suc k) ≡ due_of f os due (ℕ.suc k) = due_same f os due left (ℕ.suc k) (λ j l. first.others j (omega arith)) in
    let mem : bit_at due k ≡ 1 = rw now first.member in
    let gone : bit_at left k ≡ 0 = rw now first.gone in
    rw (mem, gone, rest, same) (split (f o) (due_of f os due (ℕ.suc k)))
  where
    split : (b : Bool) (r : ℕ) → (if b then 1 else 0) + r ≡ (if b then 1 else 0) + ((if b then 0 else 0) + r)
    split true r = omega arith
    split false r = omega arith
due_less f (p ∷ os) due left number (ℕ.suc n) k o is there first =
    let rest : due_of f os due (ℕ.suc k) ≡ (if f o then 1 else 0) + due_of f os left (ℕ.suc k) = due_less f os due left number n (ℕ.suc k) o (omega arith) there first in
    let same : bit_at left k ≡ bit_at due k = first.others k (omega arith) in
    rw same (omega arith)

pub due_none : (f : Occurrence → Bool) (os : List Occurrence) (k : ℕ) → due_of f os 0 k ≡ 0
due_none f [] k = refl
due_none f (o ∷ os) k = rw (bit_at-zero k, due_none f os (ℕ.suc k)) (both (f o))
  where
    both : (b : Bool) → (if b then 0 else 0) + 0 ≡ 0
    both true = refl
    both false = refl

still_owes : (plan : Plan) (f : Occurrence → Bool) (e : Entry) (left : ℕ) (others : List Entry) → due_for plan f (still e left others) ≡ due_of f (occurrences_at plan e.list) left 0 + due_for plan f others
still_owes plan f e left others = if_elim (λ (es : List Entry). due_for plan f es ≡ due_of f (occurrences_at plan e.list) left 0 + due_for plan f others) (left == 0) others (record e { due = left } ∷ others)
    (λ t. let z : left ≡ 0 = eqb-true left 0 t in rw (z, due_none f (occurrences_at plan e.list) 0) (omega arith))
    (λ t. refl)

pub advanced_sum : (plan : Plan) (f : Occurrence → Bool) (old : RelayState) (w : ℕ) (o : Occurrence) (job : Job plan old w o) → w < length old.workers
    → left_of plan f (advanced plan old w o job) + (if f o then 1 else 0) ≡ left_of plan f old
advanced_sum plan f old w o job l =
    let a = worker_sum plan f old w (still job.entry job.left job.others) l in
    let b : due_for plan f (at old (Cell.Worker w)) ≡ due_of f (occurrences_at plan job.entry.list) job.entry.due 0 + due_for plan f job.others = ap (due_for plan f) job.held in
    let c = still_owes plan f job.entry job.left job.others in
    let d : due_of f (occurrences_at plan job.entry.list) job.entry.due 0 ≡ (if f o then 1 else 0) + due_of f (occurrences_at plan job.entry.list) job.left 0
    = due_less f (occurrences_at plan job.entry.list) job.entry.due job.left job.number job.number 0 o (omega arith) job.found job.first in
    omega (arith, a, b, c, d)

-- ---- the counts of an action

with_due_at : (more : ℕ → ℕ) (k : ℕ) (cs : List Counts) (a b : ℕ) → k + a ≡ b → a < length cs → counts_at (with_due more k cs) a ≡ record (counts_at cs a) { due = (counts_at cs a).due + more b }
with_due_at more k [] a b e l = absurd (omega arith)
with_due_at more k (c ∷ cs) ℕ.zero b e l = let z : k ≡ b = omega arith in rw z refl
with_due_at more k (c ∷ cs) (ℕ.suc a) b e l = let m : a < length cs = omega arith in let z : ℕ.suc k + a ≡ b = omega arith in with_due_at more (ℕ.suc k) cs a b z m

with_due_length : (more : ℕ → ℕ) (k : ℕ) (cs : List Counts) → length (with_due more k cs) ≡ length cs
with_due_length more k [] = refl
with_due_length more k (c ∷ cs) = ap ℕ.suc (with_due_length more (ℕ.suc k) cs)

-- ---- each step keeps the laws

pub laws_enter : (plan : Plan) (old new : RelayState) (i h : ℕ) (node : Entry) (t : Totals) → 64 * i + h < length old.hands → queue_of_input plan i < length old.queues → Laws plan old t → Enters plan old i h node new
    → Laws plan new (counted_by plan old (Event.Enter i h) new [] t)
laws_enter plan old new i h node t hh q laws enters =
    let a = hand_sum old (64 * i + h) [] hh in
    let b = queue_sum (set_cell old (hand i h) []) (queue_of_input plan i) (at old (Cell.Queue (queue_of_input plan i)) ++ node ∷ []) q in
    let c = ap length enters.leaves.held in
    let d = length-append (at old (Cell.Queue (queue_of_input plan i))) (node ∷ []) in
    let e = laws.entries in
    subst (λ x. Laws plan x t) (sym enters.after) (record { entries = omega (arith, a, b, c, d, e); posts = laws.posts; actions = laws.actions; runs = laws.runs })

pub laws_expire : (plan : Plan) (old new : RelayState) (i h : ℕ) (node : Entry) (t : Totals) → 64 * i + h < length old.hands → Laws plan old t → Expires plan old i h node new
    → Laws plan new (counted_by plan old (Event.Expire i h) new (Out.Lost Cause.Expire node ∷ []) t)
laws_expire plan old new i h node t hh laws expires =
    let a = hand_sum old (64 * i + h) [] hh in
    let c = ap length expires.leaves.held in
    let e = laws.entries in
    subst (λ x. Laws plan x (counted_by plan old (Event.Expire i h) x (Out.Lost Cause.Expire node ∷ []) t)) (sym expires.after) (record { entries = omega (arith, a, c, e); posts = laws.posts; actions = laws.actions; runs = laws.runs })

pub laws_take : (plan : Plan) (old new : RelayState) (i h : ℕ) (node : Entry) (lost : Bool) (t : Totals) → 64 * i + h < length old.hands → Laws plan old t → Takes plan old i h node lost new
    → Laws plan new (counted_by plan old (Event.Take i h node) new (if_so lost (Out.Lost Cause.Take node)) t)
laws_take plan old new i h node lost t hh laws takes = subst (λ x. Laws plan x (counted_by plan old (Event.Take i h node) x (if_so lost (Out.Lost Cause.Take node)) t)) (sym takes.after) (go lost)
  where
    go : (lost : Bool) → Laws plan (if lost then old else (set_cell old (hand i h) (node ∷ []))) (counted_by plan old (Event.Take i h node) old (if_so lost (Out.Lost Cause.Take node)) t)
    go true = let e = laws.entries in record { entries = omega (arith, e); posts = laws.posts; actions = laws.actions; runs = laws.runs }
    go false =
        let a = hand_sum old (64 * i + h) (node ∷ []) hh in
        let c = ap length takes.free in
        let e = laws.entries in
        record { entries = omega (arith, a, c, e); posts = laws.posts; actions = laws.actions; runs = laws.runs }

pub laws_grab : (plan : Plan) (old new : RelayState) (w : ℕ) (lost : List Entry) (t : Totals) → w < length old.workers → queue_of_worker plan w < length old.queues → Laws plan old t → Grabs plan old w lost new
    → (outs : List Out) → Laws plan new (counted_by plan old (Event.Grab w) new outs t)
laws_grab plan old new w lost t there q laws grabs outs =
    let n = (parameters_at plan (queue_of_worker plan w)).batch in
    let es = at old (Cell.Queue (queue_of_worker plan w)) in
    let kept = kept_of (marks_at plan (queue_of_worker plan w)) n es in
    let one = set_cell old (Cell.Queue (queue_of_worker plan w)) (drop n es) in
    let a = queue_sum old (queue_of_worker plan w) (drop n es) q in
    let b = length-drop n es in
    let e = laws.entries in
    let idle = λ (f : Occurrence → Bool). ap (due_for plan f) grabs.idle in
    let has = λ (f : Occurrence → Bool). ap (due_for plan f) (at_set one (Cell.Worker w) kept there) in
    let more = λ (f : Occurrence → Bool). worker_sum plan f one w kept there in
    let more_of = λ (a : ℕ). due_for plan (is_run_of a) (at (set_cell one (Cell.Worker w) kept) (Cell.Worker w)) in
    subst (λ x. Laws plan x (counted_by plan old (Event.Grab w) x outs t)) (sym grabs.after) (record {
      entries = omega (arith, a, b, e);
      posts = let x = idle is_post in let y = has is_post in let z = more is_post in let p = laws.posts in omega (arith, x, y, z, p);
      actions = with_due_length more_of 0 t.actions ∙ laws.actions;
      runs = λ a l.
          let m : a < length t.actions = rw (with_due_length more_of 0 t.actions) at l in
          let x = idle (is_run_of a) in let y = has (is_run_of a) in let z = more (is_run_of a) in let p = laws.runs a m in
          rw (with_due_at more_of 0 t.actions a a (omega arith) m) (omega (arith, x, y, z, p));
    })

pub laws_done : (plan : Plan) (old new : RelayState) (w a : ℕ) (e : Entry) (t : Totals) → w < length old.workers → Laws plan old t → Settles plan old w a e new
    → Laws plan new (counted_by plan old (Event.Done w) new (Out.Passed a e ∷ []) t)
laws_done plan old new w a e t there laws does =
    let part = advanced plan old w (occurrence.Run a) does.job in
    let more = λ (f : Occurrence → Bool). advanced_sum plan f old w (occurrence.Run a) does.job there in
    subst (λ x. Laws plan x (counted_by plan old (Event.Done w) x (Out.Passed a e ∷ []) t)) (sym does.after) (record {
      entries = laws.entries;
      posts = let z = more is_post in let p = laws.posts in omega (arith, z, p);
      actions = set_length t.actions a _ ∙ laws.actions;
      runs = λ b l. let z = more (is_run_of b) in go b (a == b) refl (rw set_length at l) z;
    })
  where
    go : (b : ℕ) (same : Bool) → (a == b) ≡ same → b < length t.actions
        → left_of plan (is_run_of b) (advanced plan old w (occurrence.Run a) does.job) + (if a == b then 1 else 0) ≡ left_of plan (is_run_of b) old
        → (counts_at (counts_done (Out.Passed a e ∷ []) t.actions) b).due ≡ (counts_at (counts_done (Out.Passed a e ∷ []) t.actions) b).done + (counts_at (counts_done (Out.Passed a e ∷ []) t.actions) b).given_up + left_of plan (is_run_of b) (advanced plan old w (occurrence.Run a) does.job)
    go b true eq l z =
        let is : a ≡ b = eqb-true a b eq in
        let p = laws.runs b l in
        let y = rw eq at z in
        let s : counts_at (counts_done (Out.Passed a e ∷ []) t.actions) b ≡ record (counts_at t.actions b) { done = (counts_at t.actions b).done + 1 } = rw is (get_or-set_same t.actions b _ _ l) in
        rw s (omega (arith, p, y))
    go b false eq l z =
        let p = laws.runs b l in
        let y = rw eq at z in
        let s : counts_at (counts_done (Out.Passed a e ∷ []) t.actions) b ≡ counts_at t.actions b = get_or-set_other t.actions a b _ _ (λ is. eqb-false a b eq (sym is)) in
        rw s (omega (arith, p, y))

pub laws_give_up : (plan : Plan) (old new : RelayState) (w a : ℕ) (went : Bool) (e : Entry) (t : Totals) → w < length old.workers → Laws plan old t → GivesUp plan old w a e new
    → Laws plan new (counted_by plan old (Event.GiveUp w went) new (Out.Lost (Cause.GiveUp a) e ∷ if_so went (Out.Passed a e)) t)
laws_give_up plan old new w a went e t there laws gives =
    let part = advanced plan old w (occurrence.Run a) gives.job in
    let more = λ (f : Occurrence → Bool). advanced_sum plan f old w (occurrence.Run a) gives.job there in
    subst (λ x. Laws plan x (counted_by plan old (Event.GiveUp w went) x (Out.Lost (Cause.GiveUp a) e ∷ if_so went (Out.Passed a e)) t)) (sym gives.after) (record {
      entries = laws.entries;
      posts = let z = more is_post in let p = laws.posts in omega (arith, z, p);
      actions = set_length t.actions a _ ∙ laws.actions;
      runs = λ b l. let z = more (is_run_of b) in go b (a == b) refl (rw set_length at l) z;
    })
  where
    go : (b : ℕ) (same : Bool) → (a == b) ≡ same → b < length t.actions
        → left_of plan (is_run_of b) (advanced plan old w (occurrence.Run a) gives.job) + (if a == b then 1 else 0) ≡ left_of plan (is_run_of b) old
        → (counts_at (counts_given_up (Out.Lost (Cause.GiveUp a) e ∷ if_so went (Out.Passed a e)) t.actions) b).due ≡ (counts_at (counts_given_up (Out.Lost (Cause.GiveUp a) e ∷ if_so went (Out.Passed a e)) t.actions) b).done + (counts_at (counts_given_up (Out.Lost (Cause.GiveUp a) e ∷ if_so went (Out.Passed a e)) t.actions) b).given_up + left_of plan (is_run_of b) (advanced plan old w (occurrence.Run a) gives.job)
    go b true eq l z =
        let is : a ≡ b = eqb-true a b eq in
        let p = laws.runs b l in
        let y = rw eq at z in
        let s : counts_at (counts_given_up (Out.Lost (Cause.GiveUp a) e ∷ if_so went (Out.Passed a e)) t.actions) b ≡ record (counts_at t.actions b) { given_up = (counts_at t.actions b).given_up + 1 } = rw is (get_or-set_same t.actions b _ _ l) in
        rw s (omega (arith, p, y))
    go b false eq l z =
        let p = laws.runs b l in
        let y = rw eq at z in
        let s : counts_at (counts_given_up (Out.Lost (Cause.GiveUp a) e ∷ if_so went (Out.Passed a e)) t.actions) b ≡ counts_at t.actions b = get_or-set_other t.actions a b _ _ (λ is. eqb-false a b eq (sym is)) in
        rw s (omega (arith, p, y))

pub laws_fail : (plan : Plan) (old new : RelayState) (w a : ℕ) (went : Bool) (e : Entry) (t : Totals) → Laws plan old t → Fails plan old w a e new
    → (outs : List Out) → Laws plan new (counted_by plan old (Event.Fail w went) new outs t)
laws_fail plan old new w a went e t laws fails outs = subst (λ x. Laws plan x t) (sym fails.after) (record { entries = laws.entries; posts = laws.posts; actions = laws.actions; runs = laws.runs })

pub laws_lose_post : (plan : Plan) (old new : RelayState) (w l : ℕ) (memory : Bool) (e : Entry) (t : Totals) → w < length old.workers → Laws plan old t → LosesPost plan old w l memory e new
    → Laws plan new (counted_by plan old (Event.PostLost w memory) new (Out.Lost (Cause.PostLost l) e ∷ []) t)
laws_lose_post plan old new w l memory e t there laws loses =
    let more = λ (f : Occurrence → Bool). advanced_sum plan f old w (occurrence.Post l) loses.job there in
    subst (λ x. Laws plan x (counted_by plan old (Event.PostLost w memory) x (Out.Lost (Cause.PostLost l) e ∷ []) t)) (sym loses.after) (record {
      entries = laws.entries;
      posts = let z = more is_post in let p = laws.posts in omega (arith, z, p);
      actions = laws.actions;
      runs = λ b k. let z = more (is_run_of b) in let p = laws.runs b k in omega (arith, z, p);
    })

pub laws_post : (plan : Plan) (old new : RelayState) (w l : ℕ) (node : Entry) (lost : Bool) (t : Totals) → w < length old.workers → queue_for plan l < length old.queues → Laws plan old t → (posts : Posts plan old w l node lost new)
    → Laws plan new (counted_by plan old (Event.Post w) new (if_so lost (Out.Lost (Cause.Post l) posts.job.entry)) t)
laws_post plan old new w l node lost t there q laws posts = subst (λ x. Laws plan x (counted_by plan old (Event.Post w) x (if_so lost (Out.Lost (Cause.Post l) posts.job.entry)) t)) (sym posts.after) (go lost)
  where
    go : (lost : Bool) → Laws plan (if lost then (advanced plan old w (occurrence.Post l) posts.job) else (set_cell (advanced plan old w (occurrence.Post l) posts.job) (Cell.Queue (queue_for plan l)) (at old (Cell.Queue (queue_for plan l)) ++ node ∷ [])))
        (counted_by plan old (Event.Post w) old (if_so lost (Out.Lost (Cause.Post l) posts.job.entry)) t)
    go true =
        let e = laws.entries in
        let more = λ (f : Occurrence → Bool). advanced_sum plan f old w (occurrence.Post l) posts.job there in
        record {
          entries = omega (arith, e);
          posts = let z = more is_post in let p = laws.posts in omega (arith, z, p);
          actions = laws.actions;
          runs = λ b k. let z = more (is_run_of b) in let p = laws.runs b k in omega (arith, z, p);
        }
    go false =
        let e = laws.entries in
        let a = queue_sum (advanced plan old w (occurrence.Post l) posts.job) (queue_for plan l) (at old (Cell.Queue (queue_for plan l)) ++ node ∷ []) q in
        let d = length-append (at old (Cell.Queue (queue_for plan l))) (node ∷ []) in
        let more = λ (f : Occurrence → Bool). advanced_sum plan f old w (occurrence.Post l) posts.job there in
        record {
          entries = omega (arith, a, d, e);
          posts = let z = more is_post in let p = laws.posts in omega (arith, z, p);
          actions = laws.actions;
          runs = λ b k. let z = more (is_run_of b) in let p = laws.runs b k in omega (arith, z, p);
        }

-- ---- before the first step

total_replicate : {A : Type 0} (f : A → ℕ) (n : ℕ) (x : A) → f x ≡ 0 → total f (replicate n x) ≡ 0
total_replicate f ℕ.zero x e = refl
total_replicate f (ℕ.suc n) x e = let r = total_replicate f n x e in omega (arith, e, r)

replicate_length : {A : Type 0} (n : ℕ) (x : A) → length (replicate n x) ≡ n
replicate_length ℕ.zero x = refl
replicate_length (ℕ.suc n) x = ap ℕ.suc (replicate_length n x)

replicate_at : {A : Type 0} (n k : ℕ) (x : A) → get_or (replicate n x) k x ≡ x
replicate_at ℕ.zero k x = refl
replicate_at (ℕ.suc n) ℕ.zero x = refl
replicate_at (ℕ.suc n) (ℕ.suc k) x = replicate_at n k x

pub opens : (plan : Plan) → IsShaped plan (opening plan) × Laws plan (opening plan) (nothing_counted plan)
opens plan = (
  record {
    hands = replicate_length (64 * length plan.inputs) [];
    queues = replicate_length (length plan.queues) [];
    workers = replicate_length (length plan.workers) [];
    failures = replicate_length (length plan.workers) 0;
  },
  record {
    entries =
        let a : in_hands (opening plan) ≡ 0 = total_replicate length (64 * length plan.inputs) [] refl in
        let b : in_queues (opening plan) ≡ 0 = total_replicate length (length plan.queues) [] refl in
        omega (arith, a, b);
    posts = let a : left_of plan is_post (opening plan) ≡ 0 = total_replicate (due_for plan is_post) (length plan.workers) [] refl in omega (arith, a);
    actions = replicate_length (length plan.actions) no_counts;
    runs = λ action l.
        let a : left_of plan (is_run_of action) (opening plan) ≡ 0 = total_replicate (due_for plan (is_run_of action)) (length plan.workers) [] refl in
        let z = replicate_at (length plan.actions) action no_counts in
        let due = ap (λ (c : Counts). c.due) z in
        let done = ap (λ (c : Counts). c.done) z in
        let given = ap (λ (c : Counts). c.given_up) z in
        omega (arith, a, due, done, given);
  },
)

-- ---- all steps

pub laws_step : (plan : Plan) (old : RelayState) (e : Event) (new : RelayState) (outs : List Out) (t : Totals) → IsWhole plan → IsShaped plan old → Laws plan old t → Step plan old e new outs
    → Laws plan new (counted_by plan old e new outs t)
laws_step plan old (Event.Take i h node) new outs t w s laws (lost, takes, is) =
    subst (λ xs. Laws plan new (counted_by plan old (Event.Take i h node) new xs t)) (sym is)
    (laws_take plan old new i h node lost t (hand_there plan old i h s takes.there) laws takes)
laws_step plan old (Event.Enter i h) new outs t w s laws (node, enters, is) =
    laws_enter plan old new i h node t (hand_there plan old i h s enters.leaves.there) (input_queue_there plan old i w s enters.leaves.there.0) laws enters
laws_step plan old (Event.Expire i h) new outs t w s laws (node, expires, is) =
    subst (λ xs. Laws plan new (counted_by plan old (Event.Expire i h) new xs t)) (sym is)
    (laws_expire plan old new i h node t (hand_there plan old i h s expires.leaves.there) laws expires)
laws_step plan old (Event.Grab x) new outs t w s laws (lost, grabs, is) =
    laws_grab plan old new x lost t (worker_there plan old x s grabs.there) (worker_queue_there plan old x w s grabs.there) laws grabs outs
laws_step plan old (Event.Done x) new outs t w s laws (a, e, does, is) =
    subst (λ xs. Laws plan new (counted_by plan old (Event.Done x) new xs t)) (sym is)
    (laws_done plan old new x a e t (worker_there plan old x s does.job.there) laws does)
laws_step plan old (Event.Fail x took) new outs t w s laws (a, e, fails, is) = laws_fail plan old new x a took e t laws fails outs
laws_step plan old (Event.GiveUp x took) new outs t w s laws (a, e, gives, is) =
    subst (λ xs. Laws plan new (counted_by plan old (Event.GiveUp x took) new xs t)) (sym is)
    (laws_give_up plan old new x a took e t (worker_there plan old x s gives.job.there) laws gives)
laws_step plan old (Event.Post x) new outs t w s laws (l, node, lost, posts, is) =
    subst (λ xs. Laws plan new (counted_by plan old (Event.Post x) new xs t)) (sym is)
    (laws_post plan old new x l node lost t (worker_there plan old x s posts.job.there) (list_queue_there plan old l w s) laws posts)
laws_step plan old (Event.PostLost x no_memory) new outs t w s laws (l, e, loses, is) =
    subst (λ xs. Laws plan new (counted_by plan old (Event.PostLost x no_memory) new xs t)) (sym is)
    (laws_lose_post plan old new x l no_memory e t (worker_there plan old x s loses.job.there) laws loses)

-- the laws don't look at guarded losses
pub laws_counted : (plan : Plan) (guard : GuardState) (old : RelayState) (e : Event) (new : RelayState) (outs : List Out) (t : Totals) → IsWhole plan → IsShaped plan old → Laws plan old t → Step plan old e new outs
    → Laws plan new (counted plan guard old e new outs t)
laws_counted plan guard old e new outs t w s laws step =
    let l = laws_step plan old e new outs t w s laws step in
    record { entries = l.entries; posts = l.posts; actions = l.actions; runs = l.runs }
