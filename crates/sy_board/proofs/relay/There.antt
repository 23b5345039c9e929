-- The places that a step names are there.
use Rattle.std.proofs.Common.{ℕ, ◌+◌, ◌*◌, ◌<◌, ◌≤◌, List, [], ◌∷◌, length, arith, Some, None, Option, get_or, All}
use Rattle.std.specs.Prelude.{slice_get, unwrap_or, IfSome}
use Rattle.sy_rules.specs.PlanValue.{Plan, Listed}
use Rattle.sy_rules.specs.Whole.{IsWhole, queue_for, queue_in}
use Rattle.sy_board.specs.relay.Cells.{IsShaped, RelayState}
use Rattle.sy_board.specs.relay.Plans.{queue_of_input, queue_of_worker}
use Rattle.sy_board.specs.relay.Steps.{IsHand}

-- an element at a place that is there
all_at : {A : Type 0} (P : A → Type 0) (xs : List A) (k : ℕ) (d : A) → k < length xs → All P xs → P (get_or xs k d)
all_at P xs k d l all = all k d l

pub hand_there : (plan : Plan) (part : RelayState) (i h : ℕ) → IsShaped plan part → IsHand plan i h → 64 * i + h < length part.hands
hand_there plan part i h s there = let a = there.0 in let b = there.1 in let c = s.hands in omega (arith, a, b, c)

pub worker_there : (plan : Plan) (part : RelayState) (w : ℕ) → IsShaped plan part → w < length plan.workers → w < length part.workers
worker_there plan part w s there = let a = s.workers in omega (arith, a, there)

pub failures_there : (plan : Plan) (part : RelayState) (w : ℕ) → IsShaped plan part → w < length plan.workers → w < length part.failures
failures_there plan part w s there = let a = s.failures in omega (arith, a, there)

pub input_queue_there : (plan : Plan) (part : RelayState) (i : ℕ) → IsWhole plan → IsShaped plan part → i < length plan.inputs → queue_of_input plan i < length part.queues
input_queue_there plan part i w s there =
    let a : queue_of_input plan i < length plan.queues = all_at (λ x. x.queue < length plan.queues) plan.inputs i _ there w.input_queues in
    let b = s.queues in omega (arith, a, b)

pub worker_queue_there : (plan : Plan) (part : RelayState) (w : ℕ) → IsWhole plan → IsShaped plan part → w < length plan.workers → queue_of_worker plan w < length part.queues
worker_queue_there plan part w whole s there =
    let a : queue_of_worker plan w < length plan.queues = all_at (λ q. q < length plan.queues) plan.workers w _ there whole.worker_queues in
    let b = s.queues in omega (arith, a, b)

at_or_none : {A : Type 0} (P : A → Type 0) (xs : List A) (k : ℕ) → All P xs → IfSome (slice_get xs k) P
at_or_none P [] k all = tt
at_or_none P (x ∷ xs) ℕ.zero all = all 0 x (omega arith)
at_or_none P (x ∷ xs) (ℕ.suc k) all = at_or_none P xs k (λ j d l. all (ℕ.suc j) d (omega (arith, l)))

-- the queue of any list: its own, or queue 0
own_queue : (plan : Plan) (found : Option Listed) → IsWhole plan → IfSome found (λ l. IfSome l.queue (λ queue. (1 ≤ queue) × (queue < length plan.queues)))
    → unwrap_or (queue_in found) 0 < length plan.queues
own_queue plan None whole there = let a = whole.queues_least in omega (arith, a)
own_queue plan (Some l) whole there = go l.queue there
  where
    go : (q : Option ℕ) → IfSome q (λ queue. (1 ≤ queue) × (queue < length plan.queues)) → unwrap_or q 0 < length plan.queues
    go None t = let a = whole.queues_least in omega (arith, a)
    go (Some queue) t = t.1

pub list_queue_there : (plan : Plan) (part : RelayState) (l : ℕ) → IsWhole plan → IsShaped plan part → queue_for plan l < length part.queues
list_queue_there plan part l whole s =
    let a = own_queue plan (slice_get plan.lists l) whole (at_or_none (λ x. IfSome x.queue (λ queue. (1 ≤ queue) × (queue < length plan.queues))) plan.lists l whole.list_queues) in
    let b = s.queues in omega (arith, a, b)
