-- No worker has more entries than the largest batch.
use Rattle.std.proofs.Common.{ℕ, ◌≤◌, ◌==◌, Bool, true, false, if◌then◌else◌, List, [], ◌∷◌, length, sym, subst, arith, All, get_or, set}
use Rattle.sy_chain.specs.Entries.{Entry}
use Rattle.sy_rules.specs.declared.lists.occurrence.Occurrence.{Occurrence}
use Rattle.sy_marks.specs.declared.marks.Marks.{Marks}
use Rattle.sy_marks.specs.Marks.{front_where, is_kept, kept_of}
use Rattle.sy_rules.specs.PlanValue.{Plan}
use Rattle.sy_rules.specs.declared.parameters.settings.QueueParameters.{QueueParameters}
use Rattle.sy_rules.specs.parameters.Objects.{AreInRange}
use Rattle.sy_rules.specs.Whole.{IsWhole}
use Rattle.sy_board.specs.relay.Cells.{RelayState, hand, set_cell}
use Rattle.sy_board.specs.relay.Plans.{marks_at, parameters_at, queue_of_worker}
use Rattle.sy_board.specs.relay.Steps.{Event, Job, Out, Step, advanced, still}
use Rattle.sy_board.specs.internal.Kept.{LARGEST_BATCH}
use Rattle.sy_board.proofs.relay.SetCells.{if_elim, set_elim, set_length}

abbrev IsBatch : List Entry → Type 0
IsBatch entries = length entries ≤ LARGEST_BATCH

all_set : (xs : List (List Entry)) (k : ℕ) (v : List Entry) → All IsBatch xs → IsBatch v → All IsBatch (set xs k v)
all_set xs k v all p = λ j d l. set_elim IsBatch xs k j v d (λ e. p) (all j d (rw set_length at l))

-- a default that is one changes nothing
at_batch : (xs : List (List Entry)) (k : ℕ) → All IsBatch xs → IsBatch (get_or xs k [])
at_batch [] k all = omega arith
at_batch (x ∷ xs) ℕ.zero all = all 0 x (omega arith)
at_batch (x ∷ xs) (ℕ.suc k) all = at_batch xs k (λ j d l. all (ℕ.suc j) d (omega (arith, l)))

still_batch : (e : Entry) (left : ℕ) (others : List Entry) → IsBatch (e ∷ others) → IsBatch (still e left others)
still_batch e left others p = go (left == 0)
  where
    go : (b : Bool) → IsBatch (if b then others else record e { due = left } ∷ others)
    go true = omega (arith, p)
    go false = omega (arith, p)

advanced_batches : (plan : Plan) (old : RelayState) (w : ℕ) (o : Occurrence) (job : Job plan old w o) → All IsBatch old.workers
    → All IsBatch (advanced plan old w o job).workers
advanced_batches plan old w o job all =
    let first : IsBatch (job.entry ∷ job.others) = subst IsBatch job.held (at_batch old.workers w all) in
    all_set old.workers w (still job.entry job.left job.others) all (still_batch job.entry job.left job.others first)

front_short : (test : Entry → ℕ → Bool) (n : ℕ) (entries : List Entry) → length (front_where test n entries) ≤ n
front_short test ℕ.zero entries = omega arith
front_short test (ℕ.suc n) [] = omega arith
front_short test (ℕ.suc n) (e ∷ behind) = go (test e (length behind)) (front_short test n behind)
  where
    go : (b : Bool) → length (front_where test n behind) ≤ n → length (if b then e ∷ front_where test n behind else front_where test n behind) ≤ ℕ.suc n
    go true l = omega (arith, l)
    go false l = omega (arith, l)

abbrev off : QueueParameters
off = record { size = 0; batch = 0; full_delay_mark = 0; light_delay_mark = 0; discard_mark = 0; discard_severity = 0; timeout_enqueue = 0; workers = 0; waits = false }

small : (qs : List QueueParameters) (k : ℕ) → All AreInRange qs → (get_or qs k off).batch ≤ LARGEST_BATCH
small [] k all = omega arith
small (q ∷ qs) ℕ.zero all = let r = all 0 q (omega arith) in let b = r.batch_most in omega (arith, b)
small (q ∷ qs) (ℕ.suc k) all = small qs k (λ j d l. all (ℕ.suc j) d (omega (arith, l)))

-- the batch of a queue, also of one that isn't there
batch_small : (plan : Plan) (queue : ℕ) → IsWhole plan → (parameters_at plan queue).batch ≤ LARGEST_BATCH
batch_small plan queue whole = small plan.queues queue whole.queue_ranges

kept_batch : (plan : Plan) (queue : ℕ) (m : Marks) (entries : List Entry) → IsWhole plan → IsBatch (kept_of m (parameters_at plan queue).batch entries)
kept_batch plan queue m entries whole =
    let a = front_short (is_kept m) (parameters_at plan queue).batch entries in
    let b = batch_small plan queue whole in
    omega (arith, a, b)

pub batches_step : (plan : Plan) (old : RelayState) (event : Event) (new : RelayState) (outs : List Out) → IsWhole plan
    → All (λ entries. length entries ≤ LARGEST_BATCH) old.workers → Step plan old event new outs
    → All (λ entries. length entries ≤ LARGEST_BATCH) new.workers
batches_step plan old (Event.Take i h node) new outs whole all (lost, takes, is) = subst (λ (x : RelayState). All IsBatch x.workers) (sym takes.after)
    (if_elim (λ (x : RelayState). All IsBatch x.workers) lost old (set_cell old (hand i h) (node ∷ [])) (λ t. all) (λ t. all))
batches_step plan old (Event.Enter i h) new outs whole all (node, enters, is) = subst (λ (x : RelayState). All IsBatch x.workers) (sym enters.after) all
batches_step plan old (Event.Expire i h) new outs whole all (node, expires, is) = subst (λ (x : RelayState). All IsBatch x.workers) (sym expires.after) all
batches_step plan old (Event.Grab w) new outs whole all (lost, grabs, is) = subst (λ (x : RelayState). All IsBatch x.workers) (sym grabs.after)
    (all_set old.workers w _ all (kept_batch plan (queue_of_worker plan w) (marks_at plan (queue_of_worker plan w)) _ whole))
batches_step plan old (Event.Done w) new outs whole all (a, e, does, is) = subst (λ (x : RelayState). All IsBatch x.workers) (sym does.after) (advanced_batches plan old w _ does.job all)
batches_step plan old (Event.Fail w took) new outs whole all (a, e, fails, is) = subst (λ (x : RelayState). All IsBatch x.workers) (sym fails.after) all
batches_step plan old (Event.GiveUp w took) new outs whole all (a, e, gives, is) = subst (λ (x : RelayState). All IsBatch x.workers) (sym gives.after) (advanced_batches plan old w _ gives.job all)
batches_step plan old (Event.Post w) new outs whole all (l, node, lost, posts, is) = subst (λ (x : RelayState). All IsBatch x.workers) (sym posts.after)
    (if_elim (λ (x : RelayState). All IsBatch x.workers) lost _ _ (λ t. advanced_batches plan old w _ posts.job all) (λ t. advanced_batches plan old w _ posts.job all))
batches_step plan old (Event.PostLost w no_memory) new outs whole all (l, e, loses, is) = subst (λ (x : RelayState). All IsBatch x.workers) (sym loses.after) (advanced_batches plan old w _ loses.job all)
