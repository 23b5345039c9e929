-- A weight for each entry by where it is, so that a relay's own steps make what it holds lighter.
use Rattle.std.proofs.Common.{◌≡◌, ℕ, ◌+◌, ◌*◌, ◌<◌, ◌≤◌, ◌==◌, Bool, true, false, if◌then◌else◌, List, [], ◌∷◌, ◌++◌, length, drop, refl, sym, subst, ap, arith, ◌∙◌, get_or, set}
use Rattle.std.specs.Prelude.{◌&&◌, ◌≢◌, not}
use Rattle.std.proofs.lemmas.Bool.{eqb-true, eqb-false}
use Rattle.sy_wire.specs.declared.class.Class.{Class}
use Rattle.sy_wire.specs.Messages.{Said}
use Rattle.sy_chain.specs.Entries.{Entry}
use Rattle.sy_marks.specs.declared.marks.Marks.{Marks}
use Rattle.sy_marks.specs.Marks.{is_lost, kept_of}
use Rattle.sy_rules.specs.declared.lists.occurrence.Occurrence.{Occurrence}
use Rattle.sy_rules.specs.declared.lists.occurrence.Occurrence.TheVariants as occurrence
use Rattle.sy_rules.specs.PlanValue.{Plan}
use Rattle.sy_rules.specs.Whole.{IsWhole, queue_for}
use Rattle.sy_board.specs.relay.Cells.{Cell, IsShaped, RelayState, at, set_cell, hand}
use Rattle.sy_board.specs.relay.Plans.{marks_at, occurrences_at, parameters_at, queue_of_input, queue_of_worker}
use Rattle.sy_board.specs.relay.Steps.{Enters, Grabs, Job, Posts, Takes, advanced, still}
use Rattle.sy_flowing.proofs.relay.DueNumbers.{many, many_less, many_most}
use Rattle.sy_board.proofs.relay.There.{hand_there, input_queue_there, list_queue_there, worker_queue_there, worker_there}

-- ---- sums

abbrev pub total : {A : Type 0} → (A → ℕ) → List A → ℕ
total f [] = 0
total f (x ∷ xs) = f x + total f xs

pub total_append : {A : Type 0} (f : A → ℕ) (xs ys : List A) → total f (xs ++ ys) ≡ total f xs + total f ys
total_append f [] ys = omega arith
total_append f (x ∷ xs) ys = let r = total_append f xs ys in omega (arith, r)

pub total_set : {A : Type 0} (f : A → ℕ) (xs : List A) (k : ℕ) (v d : A) → k < length xs → total f (set xs k v) + f (get_or xs k d) ≡ total f xs + f v
total_set f [] k v d l = absurd (omega (arith, l))
total_set f (x ∷ xs) ℕ.zero v d l = omega arith
total_set f (x ∷ xs) (ℕ.suc k) v d l = let r = total_set f xs k v d (omega (arith, l)) in omega (arith, r)

abbrev pub times : ℕ → ℕ → ℕ
times ℕ.zero c = 0
times (ℕ.suc n) c = c + times n c

times_less : (n m c : ℕ) → n ≤ m → times n c ≤ times m c
times_less ℕ.zero m c l = omega arith
times_less (ℕ.suc n) ℕ.zero c l = absurd (omega (arith, l))
times_less (ℕ.suc n) (ℕ.suc m) c l = let r = times_less n m c (omega (arith, l)) in omega (arith, r)

times_once : (n c : ℕ) → 0 < n → c ≤ times n c
times_once ℕ.zero c l = absurd (omega (arith, l))
times_once (ℕ.suc n) c l = omega arith

-- ---- costs by rank

-- What one occurrence may bring about at this rank: an entry of a lower one, on a link.
abbrev pub cost : ℕ → ℕ
cost ℕ.zero = 1
cost (ℕ.suc h) = 5 + times 64 (cost h)

pub cost_some : (h : ℕ) → 0 < cost h
cost_some ℕ.zero = omega arith
cost_some (ℕ.suc h) = omega arith

-- what an entry with all due costs at this rank
abbrev pub most : ℕ → ℕ
most h = times 64 (cost h)

pub lower_costs_less : (low high : ℕ) → low < high → 4 + most low < cost high
lower_costs_less low ℕ.zero l = absurd (omega (arith, l))
lower_costs_less low (ℕ.suc h) l = go (low == h) refl (lower_costs_less low h)
  where
    go : (b : Bool) → (low == h) ≡ b → (low < h → 4 + most low < cost h) → 4 + most low < cost (ℕ.suc h)
    go true e less = let s : most low ≡ most h = ap most (eqb-true low h e) in omega (arith, s)
    go false e less =
        let apart : low ≢ h = eqb-false low h e in
        let r = less (omega (arith, l, apart)) in
        let o = times_once 64 (cost h) (omega arith) in
        omega (arith, r, o)

module _ (plan : Plan) (small : (list : ℕ) → length (occurrences_at plan list) ≤ 64) (rank : Class → ℕ → ℕ) where
  -- at a worker, in a queue, in a hand
  abbrev pub at_worker : Entry → ℕ
  at_worker e = 1 + times (many (occurrences_at plan e.list) e.due 0) (cost (rank e.message.class e.list))

  abbrev pub in_queue : Entry → ℕ
  in_queue e = 2 + most (rank e.message.class e.list)

  abbrev pub in_hand : Entry → ℕ
  in_hand e = 3 + most (rank e.message.class e.list)

  abbrev pub weight : RelayState → ℕ
  weight s = total (total in_hand) s.hands + total (total in_queue) s.queues + total (total at_worker) s.workers

  hand_weight : (s : RelayState) (k : ℕ) (es : List Entry) → k < length s.hands
      → weight (set_cell s (Cell.Hand k) es) + total in_hand (at s (Cell.Hand k)) ≡ weight s + total in_hand es
  hand_weight s k es l = let e = total_set (total in_hand) s.hands k es [] l in omega (arith, e)

  queue_weight : (s : RelayState) (k : ℕ) (es : List Entry) → k < length s.queues
      → weight (set_cell s (Cell.Queue k) es) + total in_queue (at s (Cell.Queue k)) ≡ weight s + total in_queue es
  queue_weight s k es l = let e = total_set (total in_queue) s.queues k es [] l in omega (arith, e)

  worker_weight : (s : RelayState) (k : ℕ) (es : List Entry) → k < length s.workers
      → weight (set_cell s (Cell.Worker k) es) + total at_worker (at s (Cell.Worker k)) ≡ weight s + total at_worker es
  worker_weight s k es l = let e = total_set (total at_worker) s.workers k es [] l in omega (arith, e)

  lighter_there : (e : Entry) → at_worker e < in_queue e
  lighter_there e =
      let m = many_most (occurrences_at plan e.list) e.due 0 in
      let s = small e.list in
      let t = times_less (many (occurrences_at plan e.list) e.due 0) 64 (cost (rank e.message.class e.list)) (omega (arith, m, s)) in
      omega (arith, t)

  -- ---- steps

  pub enter_falls : (old : RelayState) (i h : ℕ) (node : Entry) (new : RelayState) → IsWhole plan → IsShaped plan old
      → Enters plan old i h node new → weight new < weight old
  enter_falls old i h node new whole s enters =
      let q = queue_of_input plan i in
      let a = hand_weight old (64 * i + h) [] (hand_there plan old i h s enters.leaves.there) in
      let b = queue_weight (set_cell old (hand i h) []) q (at old (Cell.Queue q) ++ node ∷ []) (input_queue_there plan old i whole s enters.leaves.there.0) in
      let c = ap (total in_hand) enters.leaves.held in
      let d = total_append in_queue (at old (Cell.Queue q)) (node ∷ []) in
      subst (λ x. weight x < weight old) (sym enters.after) (omega (arith, a, b, c, d))

  batch_most : (m : Marks) (n : ℕ) (es : List Entry) → total in_queue (drop n es) + total at_worker (kept_of m n es) ≤ total in_queue es
  batch_most m ℕ.zero es = omega arith
  batch_most m (ℕ.suc n) [] = omega arith
  batch_most m (ℕ.suc n) (e ∷ es) =
      let r = batch_most m n es in
      let l = lighter_there e in
      go r l (not (is_lost m e (length es)) && not (e.due == 0))
    where
      go : total in_queue (drop n es) + total at_worker (kept_of m n es) ≤ total in_queue es → at_worker e < in_queue e → (b : Bool)
          → total in_queue (drop n es) + total at_worker (if b then e ∷ kept_of m n es else kept_of m n es) ≤ in_queue e + total in_queue es
      go r l true = omega (arith, r, l)
      go r l false = omega (arith, r, l)

  batch_less : (m : Marks) (n : ℕ) (es : List Entry) → 0 < n → 0 < length es
      → total in_queue (drop n es) + total at_worker (kept_of m n es) < total in_queue es
  batch_less m ℕ.zero es some there = absurd (omega (arith, some))
  batch_less m (ℕ.suc n) [] some there = absurd (omega (arith, there))
  batch_less m (ℕ.suc n) (e ∷ es) some there =
      let r = batch_most m n es in
      let l = lighter_there e in
      go r l (not (is_lost m e (length es)) && not (e.due == 0))
    where
      go : total in_queue (drop n es) + total at_worker (kept_of m n es) ≤ total in_queue es → at_worker e < in_queue e → (b : Bool)
          → total in_queue (drop n es) + total at_worker (if b then e ∷ kept_of m n es else kept_of m n es) < in_queue e + total in_queue es
      go r l true = omega (arith, r, l)
      go r l false = omega (arith, r, l)

  pub grab_falls : (old : RelayState) (w : ℕ) (lost : List Entry) (new : RelayState) → IsWhole plan → IsShaped plan old
      → 0 < (parameters_at plan (queue_of_worker plan w)).batch → Grabs plan old w lost new → weight new < weight old
  grab_falls old w lost new whole s batch grabs =
      let q = queue_of_worker plan w in
      let m = marks_at plan q in
      let n = (parameters_at plan q).batch in
      let es = at old (Cell.Queue q) in
      let one = set_cell old (Cell.Queue q) (drop n es) in
      let a = queue_weight old q (drop n es) (worker_queue_there plan old w whole s grabs.there) in
      let b = worker_weight one w (kept_of m n es) (worker_there plan old w s grabs.there) in
      let c = ap (total at_worker) grabs.idle in
      let d = batch_less m n es batch grabs.some in
      subst (λ x. weight x < weight old) (sym grabs.after) (omega (arith, a, b, c, d))

  still_weight : (e : Entry) (left number : ℕ) (others : List Entry) → many (occurrences_at plan e.list) e.due 0 ≡ 1 + many (occurrences_at plan e.list) left 0
      → total at_worker (still e left others) + cost (rank e.message.class e.list) ≤ at_worker e + total at_worker others
  still_weight e left number others m =
      let t = once (many (occurrences_at plan e.list) e.due 0) (many (occurrences_at plan e.list) left 0) m in
      go t (left == 0)
    where
      c : ℕ
      c = cost (rank e.message.class e.list)

      once : (n k : ℕ) → n ≡ 1 + k → times n (cost (rank e.message.class e.list)) ≡ cost (rank e.message.class e.list) + times k (cost (rank e.message.class e.list))
      once n k is = let f : n ≡ ℕ.suc k = omega (arith, is) in ap (λ z. times z (cost (rank e.message.class e.list))) f

      go : times (many (occurrences_at plan e.list) e.due 0) (cost (rank e.message.class e.list))
          ≡ cost (rank e.message.class e.list) + times (many (occurrences_at plan e.list) left 0) (cost (rank e.message.class e.list)) → (b : Bool)
          → total at_worker (if b then others else record e { due = left } ∷ others) + cost (rank e.message.class e.list) ≤ at_worker e + total at_worker others
      go t true = omega (arith, t)
      go t false = omega (arith, t)

  -- a job that is dealt with
  pub advanced_falls : (old : RelayState) (w : ℕ) (o : Occurrence) → IsShaped plan old → (job : Job plan old w o)
      → weight (advanced plan old w o job) + cost (rank job.entry.message.class job.entry.list) ≤ weight old
  advanced_falls old w o s job =
      let a = worker_weight old w (still job.entry job.left job.others) (worker_there plan old w s job.there) in
      let b : total at_worker (at old (Cell.Worker w)) ≡ at_worker job.entry + total at_worker job.others = ap (total at_worker) job.held in
      let m = many_less (occurrences_at plan job.entry.list) job.entry.due job.left job.number job.number 0 o (omega arith) job.found job.first in
      let c = still_weight job.entry job.left job.number job.others m in
      omega (arith, a, b, c)

  pub post_falls : (old : RelayState) (w list : ℕ) (node : Entry) (lost : Bool) (new : RelayState) → IsWhole plan → IsShaped plan old
      → (posts : Posts plan old w list node lost new) → rank posts.job.entry.message.class list < rank posts.job.entry.message.class posts.job.entry.list → weight new < weight old
  post_falls old w list node lost new whole s posts lower =
      let o = occurrence.Post list in
      let q = queue_for plan list in
      let moved = advanced plan old w o posts.job in
      let a = advanced_falls old w o s posts.job in
      let b = queue_weight moved q (at old (Cell.Queue q) ++ node ∷ []) (list_queue_there plan old list whole s) in
      let d = total_append in_queue (at old (Cell.Queue q)) (node ∷ []) in
      let f = lower_costs_less (rank posts.job.entry.message.class list) (rank posts.job.entry.message.class posts.job.entry.list) lower in
      let g : most (rank node.message.class node.list) ≡ most (rank posts.job.entry.message.class list)
      = ap (λ z. most (rank node.message.class z)) posts.made.list_is ∙ ap (λ (m : Said). most (rank m.class list)) posts.made.message in
      subst (λ x. weight x < weight old) (sym posts.after) (go moved (ap (total in_queue) refl) a b d f g lost)
    where
      go : (moved : RelayState) → total in_queue (at moved (Cell.Queue (queue_for plan list))) ≡ total in_queue (at old (Cell.Queue (queue_for plan list)))
          → weight moved + cost (rank posts.job.entry.message.class posts.job.entry.list) ≤ weight old
          → weight (set_cell moved (Cell.Queue (queue_for plan list)) (at old (Cell.Queue (queue_for plan list)) ++ node ∷ [])) + total in_queue (at moved (Cell.Queue (queue_for plan list)))
          ≡ weight moved + total in_queue (at old (Cell.Queue (queue_for plan list)) ++ node ∷ [])
          → total in_queue (at old (Cell.Queue (queue_for plan list)) ++ node ∷ []) ≡ total in_queue (at old (Cell.Queue (queue_for plan list))) + total in_queue (node ∷ [])
          → 4 + most (rank posts.job.entry.message.class list) < cost (rank posts.job.entry.message.class posts.job.entry.list)
          → most (rank node.message.class node.list) ≡ most (rank posts.job.entry.message.class list)
          → (b : Bool) → weight (if b then moved else set_cell moved (Cell.Queue (queue_for plan list)) (at old (Cell.Queue (queue_for plan list)) ++ node ∷ [])) < weight old
      go moved k a b d f g true = omega (arith, a, f)
      go moved k a b d f g false = omega (arith, k, a, b, d, f, g)

  pub take_rises : (old : RelayState) (i h : ℕ) (node : Entry) (lost : Bool) (new : RelayState) → IsShaped plan old
      → Takes plan old i h node lost new → weight new ≤ weight old + in_hand node
  take_rises old i h node lost new s takes =
      let a = hand_weight old (64 * i + h) (node ∷ []) (hand_there plan old i h s takes.there) in
      subst (λ x. weight x ≤ weight old + in_hand node) (sym takes.after) (go a lost)
    where
      go : weight (set_cell old (hand i h) (node ∷ [])) + total in_hand (at old (hand i h)) ≡ weight old + total in_hand (node ∷ []) → (b : Bool)
          → weight (if b then old else set_cell old (hand i h) (node ∷ [])) ≤ weight old + in_hand node
      go a true = omega arith
      go a false = omega (arith, a)
