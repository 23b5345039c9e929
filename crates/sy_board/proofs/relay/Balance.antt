-- Over each step the entries of a relay, with those that come, are those that it has then and those that went.
use Rattle.std.proofs.Common.{◌≡◌, ℕ, ◌+◌, ◌*◌, ◌<◌, ◌==◌, Bool, true, false, if◌then◌else◌, List, [], ◌∷◌, ◌++◌, length, drop, refl, sym, subst, ap, arith}
use Rattle.std.specs.Prelude.{◌&&◌, not}
use Rattle.sy_chain.specs.Entries.{Entry}
use Rattle.sy_rules.specs.declared.lists.occurrence.Occurrence.{Occurrence}
use Rattle.sy_rules.specs.declared.lists.occurrence.Occurrence.TheVariants as occurrence
use Rattle.sy_marks.specs.declared.marks.Marks.{Marks}
use Rattle.sy_marks.specs.Marks.{finished_of, is_lost, kept_of, lost_of}
use Rattle.sy_rules.specs.PlanValue.{Plan}
use Rattle.sy_rules.specs.Whole.{IsWhole, queue_for}
use Rattle.sy_board.specs.relay.Cells.{Cell, IsShaped, RelayState, at, set_cell, hand}
use Rattle.sy_board.specs.relay.Plans.{marks_at, parameters_at, queue_of_input, queue_of_worker}
use Rattle.sy_board.specs.relay.Steps.{Event, Job, Out, Step, advanced, if_so, still}
use Rattle.sy_board.specs.relay.Totals.{total}
use Rattle.sy_board.specs.relay.Moves.{came, over, rest, went}
use Rattle.sy_board.proofs.relay.AccountLaws.{total_set}
use Rattle.sy_board.proofs.relay.There.{hand_there, input_queue_there, list_queue_there, worker_queue_there, worker_there}

total_append : (f : Entry → ℕ) (xs ys : List Entry) → total f (xs ++ ys) ≡ total f xs + total f ys
total_append f [] ys = omega arith
total_append f (x ∷ xs) ys = let e = total_append f xs ys in omega (arith, e)

-- ---- one place

hand_over : (f : Entry → ℕ) (part : RelayState) (k : ℕ) (es : List Entry) → k < length part.hands → over f (set_cell part (Cell.Hand k) es) + total f (at part (Cell.Hand k)) ≡ over f part + total f es
hand_over f part k es l = let e = total_set (total f) part.hands k es [] l in omega (arith, e)

queue_over : (f : Entry → ℕ) (part : RelayState) (k : ℕ) (es : List Entry) → k < length part.queues → over f (set_cell part (Cell.Queue k) es) + total f (at part (Cell.Queue k)) ≡ over f part + total f es
queue_over f part k es l = let e = total_set (total f) part.queues k es [] l in omega (arith, e)

worker_over : (f : Entry → ℕ) (part : RelayState) (k : ℕ) (es : List Entry) → k < length part.workers → over f (set_cell part (Cell.Worker k) es) + total f (at part (Cell.Worker k)) ≡ over f part + total f es
worker_over f part k es l = let e = total_set (total f) part.workers k es [] l in omega (arith, e)

-- ---- a worker's first entry

still_over : (f : Entry → ℕ) (e : Entry) (left : ℕ) (others : List Entry) → total f (still e left others) ≡ total f (still e left []) + total f others
still_over f e left others = go (left == 0)
  where
    go : (b : Bool) → total f (if b then others else record e { due = left } ∷ others) ≡ total f (if b then [] else record e { due = left } ∷ []) + total f others
    go true = omega arith
    go false = omega arith

advanced_over : (f : Entry → ℕ) (plan : Plan) (old : RelayState) (w : ℕ) (o : Occurrence) (job : Job plan old w o) → w < length old.workers
    → over f old + total f (rest plan old w o job) ≡ over f (advanced plan old w o job) + f job.entry
advanced_over f plan old w o job l =
    let a = worker_over f old w (still job.entry job.left job.others) l in
    let b : total f (at old (Cell.Worker w)) ≡ f job.entry + total f job.others = ap (total f) job.held in
    let c = still_over f job.entry job.left job.others in
    omega (arith, a, b, c)

-- ---- a batch

batch_over : (f : Entry → ℕ) (m : Marks) (n : ℕ) (es : List Entry) → total f (drop n es) + total f (kept_of m n es) + (total f (lost_of m n es) + total f (finished_of m n es)) ≡ total f es
batch_over f m ℕ.zero es = omega arith
batch_over f m (ℕ.suc n) [] = refl
batch_over f m (ℕ.suc n) (e ∷ es) = let r = batch_over f m n es in go r (is_lost m e (length es)) (e.due == 0)
  where
    go : total f (drop n es) + total f (kept_of m n es) + (total f (lost_of m n es) + total f (finished_of m n es)) ≡ total f es → (lost none : Bool)
        → total f (drop n es) + total f (if not lost && not none then e ∷ kept_of m n es else kept_of m n es)
        + (total f (if lost then e ∷ lost_of m n es else lost_of m n es) + total f (if not lost && none then e ∷ finished_of m n es else finished_of m n es)) ≡ f e + total f es
    go r true true = omega (arith, r)
    go r true false = omega (arith, r)
    go r false true = omega (arith, r)
    go r false false = omega (arith, r)

-- ---- the steps

abbrev Result : (f : Entry → ℕ) (plan : Plan) (old : RelayState) (event : Event) (new : RelayState) (outs : List Out) → Step plan old event new outs → Type 0
Result f plan old event new outs step = over f old + total f (came plan old event new outs step) ≡ over f new + total f (went plan old event new outs step)

pub balance_step : (f : Entry → ℕ) (plan : Plan) (old : RelayState) (event : Event) (new : RelayState) (outs : List Out) → IsWhole plan → IsShaped plan old
    → (step : Step plan old event new outs) → Result f plan old event new outs step
balance_step f plan old (Event.Take i h node) new outs whole s (lost, takes, is) =
    subst (λ x. over f old + total f (node ∷ []) ≡ over f x + total f (if_so lost node)) (sym takes.after) (go lost)
  where
    go : (b : Bool) → over f old + total f (node ∷ []) ≡ over f (if b then old else set_cell old (hand i h) (node ∷ [])) + total f (if_so b node)
    go true = refl
    go false =
        let a = hand_over f old (64 * i + h) (node ∷ []) (hand_there plan old i h s takes.there) in
        let b = ap (total f) takes.free in
        omega (arith, a, b)
balance_step f plan old (Event.Enter i h) new outs whole s (node, enters, is) =
    let q = queue_of_input plan i in
    let a = hand_over f old (64 * i + h) [] (hand_there plan old i h s enters.leaves.there) in
    let b = queue_over f (set_cell old (hand i h) []) q (at old (Cell.Queue q) ++ node ∷ []) (input_queue_there plan old i whole s enters.leaves.there.0) in
    let c = ap (total f) enters.leaves.held in
    let d = total_append f (at old (Cell.Queue q)) (node ∷ []) in
    subst (λ x. over f old + 0 ≡ over f x + 0) (sym enters.after) (omega (arith, a, b, c, d))
balance_step f plan old (Event.Expire i h) new outs whole s (node, expires, is) =
    let a = hand_over f old (64 * i + h) [] (hand_there plan old i h s expires.leaves.there) in
    let c = ap (total f) expires.leaves.held in
    subst (λ x. over f old + 0 ≡ over f x + total f (node ∷ [])) (sym expires.after) (omega (arith, a, c))
balance_step f plan old (Event.Grab w) new outs whole s (lost, grabs, is) =
    let q = queue_of_worker plan w in
    let m = marks_at plan q in
    let n = (parameters_at plan q).batch in
    let es = at old (Cell.Queue q) in
    let one = set_cell old (Cell.Queue q) (drop n es) in
    let a = queue_over f old q (drop n es) (worker_queue_there plan old w whole s grabs.there) in
    let b = worker_over f one w (kept_of m n es) (worker_there plan old w s grabs.there) in
    let c = ap (total f) grabs.idle in
    let d = batch_over f m n es in
    let e = total_append f (lost_of m n es) (finished_of m n es) in
    subst (λ x. over f old + 0 ≡ over f x + total f (lost ++ finished_of m n es)) (sym grabs.after)
    (subst (λ xs. over f old + 0 ≡ over f (set_cell one (Cell.Worker w) (kept_of m n es)) + total f (xs ++ finished_of m n es)) (sym grabs.lost_are) (omega (arith, a, b, c, d, e)))
balance_step f plan old (Event.Done w) new outs whole s (x, e, does, is) =
    let a = advanced_over f plan old w (occurrence.Run x) does.job (worker_there plan old w s does.job.there) in
    let b = ap f does.its in
    subst (λ y. over f old + total f (rest plan old w _ does.job) ≡ over f y + total f (e ∷ [])) (sym does.after) (omega (arith, a, b))
balance_step f plan old (Event.Fail w took) new outs whole s (x, e, fails, is) =
    subst (λ y. over f old + 0 ≡ over f y + 0) (sym fails.after) refl
balance_step f plan old (Event.GiveUp w took) new outs whole s (x, e, gives, is) =
    let a = advanced_over f plan old w (occurrence.Run x) gives.job (worker_there plan old w s gives.job.there) in
    let b = ap f gives.its in
    subst (λ y. over f old + total f (rest plan old w _ gives.job) ≡ over f y + total f (e ∷ [])) (sym gives.after) (omega (arith, a, b))
balance_step f plan old (Event.Post w) new outs whole s (l, node, lost, posts, is) =
    let q = queue_for plan l in
    let moved = advanced plan old w (occurrence.Post l) posts.job in
    let a = advanced_over f plan old w (occurrence.Post l) posts.job (worker_there plan old w s posts.job.there) in
    let b = queue_over f moved q (at old (Cell.Queue q) ++ node ∷ []) (list_queue_there plan old l whole s) in
    let d = total_append f (at old (Cell.Queue q)) (node ∷ []) in
    subst (λ y. over f old + total f (if_so (not lost) node ++ rest plan old w _ posts.job) ≡ over f y + total f (posts.job.entry ∷ [])) (sym posts.after) (go a b d lost)
  where
    go : over f old + total f (rest plan old w _ posts.job) ≡ over f (advanced plan old w (occurrence.Post l) posts.job) + f posts.job.entry
        → over f (set_cell (advanced plan old w (occurrence.Post l) posts.job) (Cell.Queue (queue_for plan l)) (at old (Cell.Queue (queue_for plan l)) ++ node ∷ [])) + total f (at old (Cell.Queue (queue_for plan l)))
        ≡ over f (advanced plan old w (occurrence.Post l) posts.job) + total f (at old (Cell.Queue (queue_for plan l)) ++ node ∷ [])
        → total f (at old (Cell.Queue (queue_for plan l)) ++ node ∷ []) ≡ total f (at old (Cell.Queue (queue_for plan l))) + total f (node ∷ [])
        → (b : Bool) → over f old + total f (if_so (not b) node ++ rest plan old w _ posts.job)
        ≡ over f (if b then advanced plan old w (occurrence.Post l) posts.job else set_cell (advanced plan old w (occurrence.Post l) posts.job) (Cell.Queue (queue_for plan l)) (at old (Cell.Queue (queue_for plan l)) ++ node ∷ []))
        + total f (posts.job.entry ∷ [])
    go a b d true = omega (arith, a)
    go a b d false = omega (arith, a, b, d)
balance_step f plan old (Event.PostLost w no_memory) new outs whole s (l, e, loses, is) =
    let a = advanced_over f plan old w (occurrence.Post l) loses.job (worker_there plan old w s loses.job.there) in
    let b = ap f loses.its in
    subst (λ y. over f old + total f (rest plan old w _ loses.job) ≡ over f y + total f (e ∷ [])) (sym loses.after) (omega (arith, a, b))
