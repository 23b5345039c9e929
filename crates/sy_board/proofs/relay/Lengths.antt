-- What a step does to the lengths of queues, and to workers that it isn't about.
use Rattle.std.proofs.Common.{◌≡◌, ℕ, ◌+◌, map, ◌<◌, ◌==◌, Bool, true, false, if◌then◌else◌, List, [], ◌∷◌, ◌++◌, length, drop, refl, sym, subst, ap, arith, length-append, length-drop, Some}
use Rattle.std.specs.Prelude.{◌≢◌, min}
use Rattle.std.proofs.lemmas.Bool.{eqb-true, eqb-false}
use Rattle.sy_chain.specs.Entries.{Entry}
use Rattle.sy_marks.specs.Marks.{QueueState}
use Rattle.sy_rules.specs.declared.lists.occurrence.Occurrence.{Occurrence}
use Rattle.sy_rules.specs.declared.lists.occurrence.Occurrence.TheVariants as occurrence
use Rattle.sy_rules.specs.PlanValue.{Plan}
use Rattle.sy_rules.specs.Whole.{IsWhole, queue_for}
use Rattle.sy_board.specs.relay.Cells.{Cell, IsShaped, RelayState, at, set_cell, hand, waiting}
use Rattle.sy_board.specs.relay.Plans.{parameters_at, queue_of_input, queue_of_worker}
use Rattle.sy_board.specs.relay.Steps.{Event, Job, Out, Step, advanced, still}
use Rattle.sy_board.specs.relay.Moves.{IsLeftAlone, added, removed, worker_of}
use Rattle.sy_board.proofs.relay.SetCells.{set_other, set_same}
use Rattle.sy_board.proofs.relay.There.{input_queue_there, list_queue_there, worker_queue_there}

-- the length of a queue where another, or the same, gets these entries
waiting_set : (part : RelayState) (k q : ℕ) (es : List Entry) → k < length part.queues → (b : Bool) → (k == q) ≡ b
    → waiting (set_cell part (Cell.Queue k) es) q ≡ (if b then length es else waiting part q)
waiting_set part k q es l true e = let is : k ≡ q = eqb-true k q e in subst (λ x. waiting (set_cell part (Cell.Queue k) es) x ≡ length es) is (ap length (set_same part.queues k es [] l))
waiting_set part k q es l false e = ap length (set_other part.queues k q es [] (λ is. eqb-false k q e is))

-- one entry more at the end of a queue
waiting_more : (old : RelayState) (k q : ℕ) (node : Entry) → k < length old.queues
    → waiting (set_cell old (Cell.Queue k) (at old (Cell.Queue k) ++ node ∷ [])) q + 0 ≡ waiting old q + (if k == q then 1 else 0)
waiting_more old k q node l = go (k == q) refl
  where
    go : (b : Bool) → (k == q) ≡ b → waiting (set_cell old (Cell.Queue k) (at old (Cell.Queue k) ++ node ∷ [])) q + 0 ≡ waiting old q + (if b then 1 else 0)
    go true e =
        let a = waiting_set old k q (at old (Cell.Queue k) ++ node ∷ []) l true e in
        let b = length-append (at old (Cell.Queue k)) (node ∷ []) in
        let c = ap (waiting old) (eqb-true k q e) in
        omega (arith, a, b, c)
    go false e = let a = waiting_set old k q (at old (Cell.Queue k) ++ node ∷ []) l false e in omega (arith, a)

-- a batch less at the front of a queue
waiting_less : (plan : Plan) (old : RelayState) (k q : ℕ) → k < length old.queues
    → waiting (set_cell old (Cell.Queue k) (drop (parameters_at plan k).batch (at old (Cell.Queue k)))) q
    + (if k == q then min (parameters_at plan q).batch (waiting old q) else 0) ≡ waiting old q + 0
waiting_less plan old k q l = go (k == q) refl
  where
    go : (b : Bool) → (k == q) ≡ b → waiting (set_cell old (Cell.Queue k) (drop (parameters_at plan k).batch (at old (Cell.Queue k)))) q
        + (if b then min (parameters_at plan q).batch (waiting old q) else 0) ≡ waiting old q + 0
    go true e =
        let a = waiting_set old k q (drop (parameters_at plan k).batch (at old (Cell.Queue k))) l true e in
        let b = length-drop (parameters_at plan k).batch (at old (Cell.Queue k)) in
        let c = ap (waiting old) (eqb-true k q e) in
        let d = ap (λ x. (parameters_at plan x).batch) (eqb-true k q e) in
        omega (arith, a, b, c, d)
    go false e = let a = waiting_set old k q (drop (parameters_at plan k).batch (at old (Cell.Queue k))) l false e in omega (arith, a)

pub length_step : (plan : Plan) (old : RelayState) (event : Event) (new : RelayState) (outs : List Out) → IsWhole plan → IsShaped plan old
    → (step : Step plan old event new outs) → (q : ℕ) → waiting new q + removed plan old event q ≡ waiting old q + added plan old event new outs step q
length_step plan old (Event.Take i h node) new outs whole s (lost, takes, is) q = subst (λ x. waiting x q + 0 ≡ waiting old q + 0) (sym takes.after) (go lost)
  where
    go : (b : Bool) → waiting (if b then old else set_cell old (hand i h) (node ∷ [])) q + 0 ≡ waiting old q + 0
    go true = refl
    go false = refl
length_step plan old (Event.Enter i h) new outs whole s (node, enters, is) q =
    subst (λ x. waiting x q + 0 ≡ waiting old q + (if queue_of_input plan i == q then 1 else 0)) (sym enters.after)
    (waiting_more old (queue_of_input plan i) q node (input_queue_there plan old i whole s enters.leaves.there.0))
length_step plan old (Event.Expire i h) new outs whole s (node, expires, is) q = subst (λ x. waiting x q + 0 ≡ waiting old q + 0) (sym expires.after) refl
length_step plan old (Event.Grab w) new outs whole s (lost, grabs, is) q =
    subst (λ x. waiting x q + removed plan old (Event.Grab w) q ≡ waiting old q + 0) (sym grabs.after)
    (waiting_less plan old (queue_of_worker plan w) q (worker_queue_there plan old w whole s grabs.there))
length_step plan old (Event.Done w) new outs whole s (x, e, does, is) q = subst (λ y. waiting y q + 0 ≡ waiting old q + 0) (sym does.after) refl
length_step plan old (Event.Fail w took) new outs whole s (x, e, fails, is) q = subst (λ y. waiting y q + 0 ≡ waiting old q + 0) (sym fails.after) refl
length_step plan old (Event.GiveUp w took) new outs whole s (x, e, gives, is) q = subst (λ y. waiting y q + 0 ≡ waiting old q + 0) (sym gives.after) refl
length_step plan old (Event.Post w) new outs whole s (l, node, lost, posts, is) q =
    let k = queue_for plan l in
    let moved = advanced plan old w (occurrence.Post l) posts.job in
    subst (λ y. waiting y q + 0 ≡ waiting old q + (if lost then 0 else if k == q then 1 else 0)) (sym posts.after)
    (go (waiting_more old k q node (list_queue_there plan old l whole s)) lost)
  where
    go : waiting (set_cell old (Cell.Queue (queue_for plan l)) (at old (Cell.Queue (queue_for plan l)) ++ node ∷ [])) q + 0 ≡ waiting old q + (if queue_for plan l == q then 1 else 0)
        → (b : Bool) → waiting (if b then advanced plan old w (occurrence.Post l) posts.job else set_cell (advanced plan old w (occurrence.Post l) posts.job) (Cell.Queue (queue_for plan l)) (at old (Cell.Queue (queue_for plan l)) ++ node ∷ [])) q + 0
        ≡ waiting old q + (if b then 0 else if queue_for plan l == q then 1 else 0)
    go more true = refl
    go more false = more
length_step plan old (Event.PostLost w no_memory) new outs whole s (l, e, loses, is) q = subst (λ y. waiting y q + 0 ≡ waiting old q + 0) (sym loses.after) refl

-- ---- workers

other_advanced : (plan : Plan) (old : RelayState) (w v : ℕ) (o : Occurrence) (job : Job plan old w o) → w ≢ v → IsLeftAlone v old (advanced plan old w o job)
other_advanced plan old w v o job n = record {
  entries = set_other old.workers w v (still job.entry job.left job.others) [] n;
  failures = set_other old.failures w v 0 0 n;
}

apart : (w v : ℕ) → Some w ≢ Some v → w ≢ v
apart w v n e = n (ap (λ (x : ℕ). Some x) e)

pub alone_step : (plan : Plan) (old : RelayState) (event : Event) (new : RelayState) (outs : List Out) → Step plan old event new outs → (v : ℕ) → worker_of event ≢ Some v → IsLeftAlone v old new
alone_step plan old (Event.Take i h node) new outs (lost, takes, is) v n = subst (IsLeftAlone v old) (sym takes.after) (go lost)
  where
    go : (b : Bool) → IsLeftAlone v old (if b then old else set_cell old (hand i h) (node ∷ []))
    go true = record { entries = refl; failures = refl }
    go false = record { entries = refl; failures = refl }
alone_step plan old (Event.Enter i h) new outs (node, enters, is) v n = subst (IsLeftAlone v old) (sym enters.after) (record { entries = refl; failures = refl })
alone_step plan old (Event.Expire i h) new outs (node, expires, is) v n = subst (IsLeftAlone v old) (sym expires.after) (record { entries = refl; failures = refl })
alone_step plan old (Event.Grab w) new outs (lost, grabs, is) v n = subst (IsLeftAlone v old) (sym grabs.after) (record { entries = set_other old.workers w v _ [] (apart w v n); failures = refl })
alone_step plan old (Event.Done w) new outs (x, e, does, is) v n = subst (IsLeftAlone v old) (sym does.after) (other_advanced plan old w v _ does.job (apart w v n))
alone_step plan old (Event.Fail w took) new outs (x, e, fails, is) v n = subst (IsLeftAlone v old) (sym fails.after) (record { entries = refl; failures = set_other old.failures w v _ 0 (apart w v n) })
alone_step plan old (Event.GiveUp w took) new outs (x, e, gives, is) v n = subst (IsLeftAlone v old) (sym gives.after) (other_advanced plan old w v _ gives.job (apart w v n))
alone_step plan old (Event.Post w) new outs (l, node, lost, posts, is) v n = subst (IsLeftAlone v old) (sym posts.after) (go lost)
  where
    go : (b : Bool) → IsLeftAlone v old (if b then advanced plan old w (occurrence.Post l) posts.job else set_cell (advanced plan old w (occurrence.Post l) posts.job) (Cell.Queue (queue_for plan l)) (at old (Cell.Queue (queue_for plan l)) ++ node ∷ []))
    go true = other_advanced plan old w v _ posts.job (apart w v n)
    go false = let o = other_advanced plan old w v _ posts.job (apart w v n) in record { entries = o.entries; failures = o.failures }
alone_step plan old (Event.PostLost w no_memory) new outs (l, e, loses, is) v n = subst (IsLeftAlone v old) (sym loses.after) (other_advanced plan old w v _ loses.job (apart w v n))

-- the lengths of queues are those of their entries
pub lens_are : (queues : List QueueState) → map (λ (queue : QueueState). length queue.entries) queues ≡ map length (map (λ (queue : QueueState). queue.entries) queues)
lens_are [] = refl
lens_are (queue ∷ later) = ap (λ lens. length queue.entries ∷ lens) (lens_are later)
