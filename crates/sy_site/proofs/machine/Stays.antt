-- An entry that heads somewhere stays, or leaves the relay in sight.
use Rattle.std.proofs.Common.{◌≡◌, ℕ, ◌<◌, ◌==◌, Bool, true, false, if◌then◌else◌, List, [], ◌∷◌, ◌++◌, length, map, drop, refl, sym, subst, arith, inl, inr, get_or}
use Rattle.std.specs.Prelude.{◌⊎◌, ◌&&◌, not}
use Rattle.std.proofs.lemmas.Bool.{eqb-true}
use Rattle.sy_chain.specs.Entries.{Entry}
use Rattle.sy_marks.specs.declared.marks.Marks.{Marks}
use Rattle.sy_marks.specs.Marks.{is_lost, kept_of, lost_of}
use Rattle.sy_rules.specs.declared.lists.occurrence.Occurrence.{Occurrence}
use Rattle.sy_rules.specs.declared.lists.occurrence.Occurrence.TheVariants as occurrence
use Rattle.sy_rules.specs.lists.Sets.{IsLowest}
use Rattle.sy_rules.specs.PlanValue.{Plan}
use Rattle.sy_rules.specs.Whole.{IsWhole, queue_for}
use Rattle.sy_board.specs.relay.Cells.{Cell, IsShaped, RelayState, at, set_cell, hand}
use Rattle.sy_board.specs.relay.Plans.{marks_at, parameters_at, queue_of_input, queue_of_worker}
use Rattle.sy_board.specs.relay.Steps.{Cause, Event, IsPosted, Job, Out, Step, advanced, if_so, still}
use Rattle.sy_board.proofs.relay.SetCells.{Has, at_set, set_cell_elim, if_elim}
use Rattle.sy_board.proofs.relay.There.{input_queue_there, list_queue_there, worker_there}
use Rattle.sy_board.proofs.relay.Keeps.{Each, Owes, owed}

abbrev pub SomeOf : {A : Type 0} → (A → Type 0) → List A → Type 0
SomeOf P [] = ⊥
SomeOf P (x ∷ xs) = P x ⊎ SomeOf P xs

module _ {A : Type 0} (P : A → Type 0) where
  pub some_left : (xs ys : List A) → SomeOf P xs → SomeOf P (xs ++ ys)
  some_left [] ys h = absurd h
  some_left (x ∷ xs) ys h = elim h [ inl p ↦ inl p | inr t ↦ inr (some_left xs ys t) ]

  pub some_right : (xs ys : List A) → SomeOf P ys → SomeOf P (xs ++ ys)
  some_right [] ys h = h
  some_right (x ∷ xs) ys h = inr (some_right xs ys h)

-- an entry of this kind is held
abbrev pub Held : (Entry → Type 0) → RelayState → Type 0
Held Q part = (c : Cell) × SomeOf Q (at part c)

-- what holds at some place still does, or else held at the one that changed
pub set_held : (Q : Entry → Type 0) (part : RelayState) (c : Cell) (es : List Entry) (Goal : Type 0)
    → (Held Q (set_cell part c es) → Goal) → (SomeOf Q (at part c) → Goal) → Held Q part → Goal
set_held Q part c es Goal there gone h =
    set_cell_elim (λ d new. (SomeOf Q new → Goal) → SomeOf Q (at part d) → Goal) part c es (λ k s. gone s) (λ d k s. k s) h.0 (λ n. there (h.0, n)) h.1

-- what is put at a place that exists is held
pub set_here : (Q : Entry → Type 0) (part : RelayState) (c : Cell) (es : List Entry) → Has part c → SomeOf Q es → Held Q (set_cell part c es)
set_here Q part c es has s = (c, subst (SomeOf Q) (sym (at_set part c es has)) s)

-- of what a worker grabs, each entry with work is kept or lost
pub grab_cases : (Q : Entry → Type 0) → ((e : Entry) → Q e → e.due ≡ 0 → ⊥) → (q : Marks) (n : ℕ) (es : List Entry) → SomeOf Q es
    → SomeOf Q (kept_of q n es) ⊎ SomeOf Q (lost_of q n es) ⊎ SomeOf Q (drop n es)
grab_cases Q w q ℕ.zero es h = inr (inr h)
grab_cases Q w q (ℕ.suc n) [] h = absurd h
grab_cases Q w q (ℕ.suc n) (e ∷ es) h = go (grab_cases Q w q n es) (is_lost q e (length es)) (e.due == 0) refl h
  where
    go : (SomeOf Q es → SomeOf Q (kept_of q n es) ⊎ SomeOf Q (lost_of q n es) ⊎ SomeOf Q (drop n es)) → (b d : Bool) → e.due == 0 ≡ d
        → Q e ⊎ SomeOf Q es
        → SomeOf Q (if not b && not d then e ∷ kept_of q n es else kept_of q n es) ⊎ SomeOf Q
        (if b then e ∷ lost_of q n es else lost_of q n es) ⊎ SomeOf Q (drop n es)
    go more true d z (inl here) = inr (inl (inl here))
    go more true d z (inr later) = elim (more later) [ inl k ↦ inl k | inr o ↦ elim o [ inl l ↦ inr (inl (inr l)) | inr r ↦ inr (inr r) ] ]
    go more false true z (inl here) = absurd (w e here (eqb-true e.due 0 z))
    go more false true z (inr later) = more later
    go more false false z (inl here) = inl (inl here)
    go more false false z (inr later) = elim (more later) [ inl k ↦ inl (inr k) | inr o ↦ inr o ]

-- a place that holds something is there
some_there : (xss : List (List Entry)) (k : ℕ) → 0 < length (get_or xss k []) → k < length xss
some_there [] k l = absurd (omega arith)
some_there (xs ∷ xss) ℕ.zero l = omega arith
some_there (xs ∷ xss) (ℕ.suc k) l = let m = some_there xss k l in omega arith

-- the state has the places of a plan, whose numbers exist
pub record Fitting (plan : Plan) (state : RelayState) : Type 0 where
  pub whole : IsWhole plan
  pub shaped : IsShaped plan state

module _ (plan : Plan) (Q : Entry → Type 0) (Through : Entry → Occurrence → Type 0) where
  -- what a move keeps
  pub record Keeps : Type 0 where
    pub busy : (e : Entry) → Q e → e.due ≡ 0 → ⊥
    pub on : (e : Entry) (o : Occurrence) (left : ℕ) → (w : Owes plan e o) → IsLowest e.due w.number left → Q e
        → Q (record e { due = left }) ⊎ Through e o
    pub posts : (e : Entry) (l : ℕ) (node : Entry) → Through e (occurrence.Post l) → IsPosted plan e l node → Q node

  -- what was lost of it, if not all, is what it goes through
  abbrev pub ByCause : Entry → Cause → Type 0
  ByCause e (Cause.GiveUp action) = Through e (occurrence.Run action)
  ByCause e (Cause.Post list) = Through e (occurrence.Post list)
  ByCause e (Cause.PostLost list) = Through e (occurrence.Post list)
  ByCause e _ = Unit {0}

  abbrev pub NotLost : Out → Type 0
  NotLost (Out.Passed a e) = Unit {0}
  NotLost (Out.Lost cause e) = Q e → ByCause e cause → ⊥

  -- a copy that heads through the action is passed to it
  abbrev pub PassedOn : Out → Type 0
  PassedOn (Out.Passed a e) = Through e (occurrence.Run a)
  PassedOn (Out.Lost cause e) = ⊥

  module _ (keeps : Keeps) where
    not_lost_all : (es : List Entry) → Each NotLost (map (Out.Lost Cause.Grab) es) → SomeOf Q es → ⊥
    not_lost_all [] a h = h
    not_lost_all (e ∷ es) a h = elim h [ inl q ↦ a.0 q tt | inr t ↦ not_lost_all es a.1 t ]

    -- a worker that deals with its occurrence
    advance : (old : RelayState) (w : ℕ) (o : Occurrence) → Fitting plan old → (job : Job plan old w o) → Held Q old
        → Held Q (advanced plan old w o job) ⊎ (Q job.entry × Through job.entry o)
    advance old w o fits job h =
        let has : w < length old.workers = worker_there plan old w fits.shaped job.there in
        set_held Q old (Cell.Worker w) (still job.entry job.left job.others)
        (Held Q (advanced plan old w o job) ⊎ (Q job.entry × Through job.entry o))
        (λ k. inl k)
        (λ s. elim (subst (SomeOf Q) job.held s) [
          | inl q ↦ elim (keeps.on job.entry o job.left (owed plan old w o job) job.first q) [
            | inl p ↦ inl (set_here Q old (Cell.Worker w) (still job.entry job.left job.others) has (here job.left p))
            | inr t ↦ inr (q, t)
          ]
          | inr later ↦ inl (set_here Q old (Cell.Worker w) (still job.entry job.left job.others) has (behind job.left later))
        ])
        h
      where
        here : (left : ℕ) → Q (record job.entry { due = left }) → SomeOf Q (still job.entry left job.others)
        here left p = if_elim (SomeOf Q) (left == 0) job.others (record job.entry { due = left } ∷ job.others)
            (λ t. absurd (keeps.busy _ p (eqb-true left 0 t))) (λ t. inl p)

        behind : (left : ℕ) → SomeOf Q job.others → SomeOf Q (still job.entry left job.others)
        behind left p = if_elim (SomeOf Q) (left == 0) job.others (record job.entry { due = left } ∷ job.others) (λ t. p) (λ t. inr p)

    pub stays : (old : RelayState) (e : Event) (new : RelayState) (outs : List Out) → Fitting plan old → Each NotLost outs
        → Step plan old e new outs → Held Q old → Held Q new ⊎ SomeOf PassedOn outs
    stays old (Event.Take i h node) new outs fits safe (lost, takes, is) k =
        inl (subst (Held Q) (sym takes.after) (if_elim (Held Q) lost old (set_cell old (hand i h) (node ∷ [])) (λ t. k)
        (λ t. set_held Q old (hand i h) (node ∷ []) (Held Q (set_cell old (hand i h) (node ∷ []))) (λ z. z)
        (λ s. absurd (subst (SomeOf Q) takes.free s)) k)))
    stays old (Event.Enter i h) new outs fits safe (node, enters, is) k =
        let q = queue_of_input plan i in
        let has : q < length old.queues = input_queue_there plan old i fits.whole fits.shaped enters.leaves.there.0 in
        let mid = set_cell old (hand i h) [] in
        let all = at old (Cell.Queue q) ++ node ∷ [] in
        inl (subst (Held Q) (sym enters.after)
        (set_held Q old (hand i h) [] (Held Q (set_cell mid (Cell.Queue q) all))
        (λ m. set_held Q mid (Cell.Queue q) all (Held Q (set_cell mid (Cell.Queue q) all)) (λ z. z)
        (λ s. set_here Q mid (Cell.Queue q) all has (some_left Q (at old (Cell.Queue q)) (node ∷ []) s)) m)
        (λ s. set_here Q mid (Cell.Queue q) all has (some_right Q (at old (Cell.Queue q)) (node ∷ []) (subst (SomeOf Q) enters.leaves.held s))) k))
    stays old (Event.Expire i h) new outs fits safe (node, expires, is) k =
        let none : (Q node → Unit {0} → ⊥) × Unit {0} = subst (Each NotLost) is safe in
        inl (subst (Held Q) (sym expires.after) (set_held Q old (hand i h) [] (Held Q (set_cell old (hand i h) [])) (λ z. z)
        (λ s. elim (subst (SomeOf Q) expires.leaves.held s) [ inl q ↦ absurd (none.0 q tt) | inr b ↦ absurd b ]) k))
    stays old (Event.Grab w) new outs fits safe (lost, grabs, is) k =
        let q = queue_of_worker plan w in
        let l = marks_at plan q in
        let n = (parameters_at plan q).batch in
        let mid = set_cell old (Cell.Queue q) (drop n (at old (Cell.Queue q))) in
        let kept = kept_of l n (at old (Cell.Queue q)) in
        let has : w < length old.workers = worker_there plan old w fits.shaped grabs.there in
        let none : Each NotLost (map (Out.Lost Cause.Grab) (lost_of l n (at old (Cell.Queue q)))) = subst
        (λ xs. Each NotLost (map (Out.Lost Cause.Grab) xs)) grabs.lost_are (subst (Each NotLost) is safe) in
        let there : q < length old.queues = some_there old.queues q grabs.some in
        let from_mid : Held Q mid → Held Q (set_cell mid (Cell.Worker w) kept) = λ m. set_held Q mid (Cell.Worker w) kept
        (Held Q (set_cell mid (Cell.Worker w) kept)) (λ z. z) (λ s. absurd (subst (SomeOf Q) grabs.idle s)) m in
        inl (subst (Held Q) (sym grabs.after)
        (set_held Q old (Cell.Queue q) (drop n (at old (Cell.Queue q))) (Held Q (set_cell mid (Cell.Worker w) kept)) from_mid
        (λ s. elim (grab_cases Q keeps.busy l n (at old (Cell.Queue q)) s) [
          | inl a ↦ set_here Q mid (Cell.Worker w) kept has a
          | inr o ↦ elim o [
            | inl b ↦ absurd (not_lost_all (lost_of l n (at old (Cell.Queue q))) none b)
            | inr c ↦ from_mid
                (set_here Q old (Cell.Queue q) (drop n (at old (Cell.Queue q))) there c)
          ]
        ]) k))
    stays old (Event.Done w) new outs fits safe (a, e, does, is) k =
        elim (advance old w (occurrence.Run a) fits does.job k) [
          | inl h ↦ inl (subst (Held Q) (sym does.after) h)
          | inr t ↦ inr (subst (SomeOf PassedOn) (sym is) (inl (subst (λ z. Through z (occurrence.Run a)) does.its t.1)))
        ]
    stays old (Event.Fail w took) new outs fits safe (a, e, fails, is) k = inl (subst (Held Q) (sym fails.after) k)
    stays old (Event.GiveUp w took) new outs fits safe (a, e, gives, is) k =
        let none : (Q e → Through e (occurrence.Run a) → ⊥) × Each NotLost (if_so took (Out.Passed a e)) = subst (Each NotLost) is safe in
        elim (advance old w (occurrence.Run a) fits gives.job k) [
          | inl h ↦ inl (subst (Held Q) (sym gives.after) h)
          | inr t ↦ absurd (none.0 (subst Q gives.its t.0) (subst (λ z. Through z (occurrence.Run a)) gives.its t.1))
        ]
    stays old (Event.Post w) new outs fits safe (l, node, lost, posts, is) k =
        inl (subst (Held Q) (sym posts.after) (go lost (subst (Each NotLost) is safe)))
      where
        go : (b : Bool) → Each NotLost (if_so b (Out.Lost (Cause.Post l) posts.job.entry))
            → Held Q (if b then advanced plan old w (occurrence.Post l) posts.job else
            (set_cell (advanced plan old w (occurrence.Post l) posts.job) (Cell.Queue (queue_for plan l))
            (at old (Cell.Queue (queue_for plan l)) ++ node ∷ [])))
        go true none = elim (advance old w (occurrence.Post l) fits posts.job k) [ inl h ↦ h | inr t ↦ absurd (none.0 t.0 t.1) ]
        go false none = elim (advance old w (occurrence.Post l) fits posts.job k) [
          | inl h ↦ set_held Q (advanced plan old w (occurrence.Post l) posts.job) (Cell.Queue (queue_for plan l))
              (at old (Cell.Queue (queue_for plan l)) ++ node ∷ [])
              (Held Q (set_cell (advanced plan old w (occurrence.Post l) posts.job) (Cell.Queue (queue_for plan l))
              (at old (Cell.Queue (queue_for plan l)) ++ node ∷ []))) (λ z. z)
              (λ s. set_here Q (advanced plan old w (occurrence.Post l) posts.job) (Cell.Queue (queue_for plan l))
              (at old (Cell.Queue (queue_for plan l)) ++ node ∷ []) (list_queue_there plan old l fits.whole fits.shaped)
              (some_left Q (at old (Cell.Queue (queue_for plan l))) (node ∷ []) s)) h
          | inr t ↦ set_here Q (advanced plan old w (occurrence.Post l) posts.job) (Cell.Queue (queue_for plan l))
              (at old (Cell.Queue (queue_for plan l)) ++ node ∷ []) (list_queue_there plan old l fits.whole fits.shaped)
              (some_right Q (at old (Cell.Queue (queue_for plan l))) (node ∷ []) (inl (keeps.posts posts.job.entry l node t.1 posts.made)))
        ]
    stays old (Event.PostLost w no_memory) new outs fits safe (l, e, loses, is) k =
        let none : (Q e → Through e (occurrence.Post l) → ⊥) × Unit {0} = subst (Each NotLost) is safe in
        elim (advance old w (occurrence.Post l) fits loses.job k) [
          | inl h ↦ inl (subst (Held Q) (sym loses.after) h)
          | inr t ↦ absurd (none.0 (subst Q loses.its t.0) (subst (λ z. Through z (occurrence.Post l)) loses.its t.1))
        ]
