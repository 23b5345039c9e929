-- A worker of a board as the code keeps it, and the steps of its job.
use Rattle.std.proofs.Common.{◌≡◌, ℕ, ◌<◌, List, [], ◌∷◌, length, map, refl, sym, ap, ◌∙◌, arith, get_or, set}
use Rattle.std.specs.Arc.{arc_value}
use Rattle.std.specs.Vec.{with_item}
use Rattle.std.proofs.lemmas.List.{get_or-map, length-map, map-set}
use Rattle.sy_chain.specs.Entries.{Entry}
use Rattle.sy_rules.specs.declared.lists.occurrence.Occurrence.{Occurrence}
use Rattle.sy_board.specs.declared.relay.board.Board.TheInside.{Inside}
use Rattle.sy_board.specs.declared.relay.board.Worker.{Worker}
use Rattle.sy_board.specs.relay.Boards.{Account}
use Rattle.sy_board.specs.relay.Cells.{Cell, RelayState, at, failures_at, set_failures}
use Rattle.sy_board.specs.relay.Steps.{Job, advanced}
use Rattle.sy_board.specs.internal.Jobs.{HasNext, IsNext, advanced_entries}
use Rattle.sy_board.specs.internal.Kept.{IsKept, state_inside}

-- the board where a worker is this, and the accounts are these
abbrev pub with_worker : Inside → ℕ → Worker → Account → Inside
with_worker b w new a = record b { workers = with_item b.workers w new; accounts = a }

-- a worker that is there, as it was read
pub record IsSlot (b : Inside) (w : ℕ) (slot : Worker) : Type 0 where
  pub there : w < length (arc_value b.plan).workers
  pub within : w < length b.workers.items
  pub read : slot ≡ get_or b.workers.items w slot

pub slot_of : (b : Inside) (w : ℕ) (slot : Worker) → IsKept b → w < length (arc_value b.plan).workers → slot ≡ get_or b.workers.items w slot → IsSlot b w slot
slot_of b w slot kept there read =
    let sizes : length b.workers.items ≡ length (arc_value b.plan).workers = rw length-map at kept.orderly.shaped.workers in
    record { there = there; within = omega (arith, sizes, there); read = read }

slot_read : {A B : Type 0} (f : A → B) (xs : List A) (k : ℕ) (x : A) (d : B) → k < length xs → x ≡ get_or xs k x → get_or (map f xs) k d ≡ f x
slot_read f xs k x d l e = get_or-map f xs k x d l ∙ ap f (sym e)

pub slot_entries : (b : Inside) (w : ℕ) (slot : Worker) → IsSlot b w slot → at (state_inside b) (Cell.Worker w) ≡ slot.entries
slot_entries b w slot is = slot_read (λ (x : Worker). x.entries) b.workers.items w slot [] is.within is.read

pub slot_failures : (b : Inside) (w : ℕ) (slot : Worker) → IsSlot b w slot → failures_at (state_inside b) w ≡ slot.failures
slot_failures b w slot is = slot_read (λ (x : Worker). x.failures) b.workers.items w slot 0 is.within is.read

-- ---- its job

abbrev pub job_of : (b : Inside) (w : ℕ) (slot : Worker) (o : Occurrence) (left : ℕ) → IsSlot b w slot → IsNext (arc_value b.plan) slot.entries o left
    → Job (arc_value b.plan) (state_inside b) w o
job_of b w slot o left is next = record {
  there = is.there;
  entry = next.entry;
  others = next.others;
  held = slot_entries b w slot is ∙ next.held;
  number = next.number;
  left = left;
  first = next.first;
  found = next.found;
}

abbrev pub next_of_job : (b : Inside) (w : ℕ) (slot : Worker) (o : Occurrence) → IsSlot b w slot → (job : Job (arc_value b.plan) (state_inside b) w o)
    → IsNext (arc_value b.plan) slot.entries o job.left
next_of_job b w slot o is job = record {
  entry = job.entry;
  others = job.others;
  held = sym (slot_entries b w slot is) ∙ job.held;
  number = job.number;
  first = job.first;
  found = job.found;
}

-- without a next occurrence there is no job
pub no_job : (b : Inside) (w : ℕ) (slot : Worker) → IsSlot b w slot → (HasNext (arc_value b.plan) slot.entries → ⊥)
    → (o : Occurrence) → Job (arc_value b.plan) (state_inside b) w o → ⊥
no_job b w slot is none o job = none (o, job.left, next_of_job b w slot o is job)

-- ---- what is left of it

same_state : (hands queues old new : List (List Entry)) (less more : List ℕ) → old ≡ new → less ≡ more
    → (let a : RelayState = record { hands = hands; queues = queues; workers = old; failures = less } in a)
    ≡ (let b : RelayState = record { hands = hands; queues = queues; workers = new; failures = more } in b)
same_state hands queues old new less more e f = rw (e, f) refl

pub advanced_state : (b : Inside) (w : ℕ) (slot new : Worker) (o : Occurrence) (left : ℕ) (a : Account) (is : IsSlot b w slot)
    (next : IsNext (arc_value b.plan) slot.entries o left) → new.entries ≡ advanced_entries slot.entries left → new.failures ≡ 0
    → state_inside (with_worker b w new a) ≡ advanced (arc_value b.plan) (state_inside b) w o (job_of b w slot o left is next)
advanced_state b w slot new o left a is next entries failures = same_state _ _ _ _ _ _
    (map-set (λ (x : Worker). x.entries) b.workers.items w new
    ∙ ap (set (map (λ (x : Worker). x.entries) b.workers.items) w) (entries ∙ ap (λ (es : List Entry). advanced_entries es left) next.held))
    (map-set (λ (x : Worker). x.failures) b.workers.items w new ∙ ap (set (map (λ (x : Worker). x.failures) b.workers.items) w) failures)

set_back : {A : Type 0} (xs : List A) (k : ℕ) (x d : A) → get_or xs k d ≡ x → set xs k x ≡ xs
set_back [] k x d e = refl
set_back (y ∷ xs) ℕ.zero x d e = ap (λ z. z ∷ xs) (sym e)
set_back (y ∷ xs) (ℕ.suc k) x d e = ap (λ z. y ∷ z) (set_back xs k x d e)

-- the same entries, and so many failures
pub failed_state : (b : Inside) (w : ℕ) (slot new : Worker) (count : ℕ) (a : Account) → IsSlot b w slot → new.entries ≡ slot.entries → new.failures ≡ count
    → state_inside (with_worker b w new a) ≡ set_failures (state_inside b) w count
failed_state b w slot new count a is entries failures = same_state _ _ _ _ _ _
    (map-set (λ (x : Worker). x.entries) b.workers.items w new
    ∙ set_back (map (λ (x : Worker). x.entries) b.workers.items) w new.entries [] (slot_entries b w slot is ∙ sym entries))
    (map-set (λ (x : Worker). x.failures) b.workers.items w new ∙ ap (set (map (λ (x : Worker). x.failures) b.workers.items) w) failures)
