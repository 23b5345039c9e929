-- Workers have few entries, and each has few occurrences due: what they have left is far below 2^64.
use Rattle.std.proofs.Common.{ℕ, ◌+◌, ◌*◌, ◌<◌, ◌≤◌, Bool, true, false, if◌then◌else◌, List, [], ◌∷◌, length, arith, All}
use Rattle.std.specs.Prelude.{slice_get}
use Rattle.std.specs.Int.{bit_at}
use Rattle.std.proofs.lemmas.Nat.Bits.{bit_at-lt}
use Rattle.sy_chain.specs.Entries.{Entry}
use Rattle.sy_rules.specs.declared.lists.occurrence.Occurrence.{Occurrence}
use Rattle.sy_rules.specs.lists.Body.{count}
use Rattle.sy_rules.specs.PlanValue.{Plan, Listed}
use Rattle.sy_rules.specs.Whole.{IsWhole, body_in}
use Rattle.sy_board.specs.relay.Boards.{Account, BoardState}
use Rattle.sy_board.specs.relay.Plans.{occurrences_at}
use Rattle.sy_board.specs.relay.Totals.{due_for, due_of, left_of, total}
use Rattle.sy_board.specs.internal.Kept.{IsOrderly, LARGEST_BATCH}

pub all_first : {A : Type 0} (P : A → Type 0) (x : A) (xs : List A) → All P (x ∷ xs) → P x
all_first P x xs all = all 0 x (omega arith)

pub all_later : {A : Type 0} (P : A → Type 0) (x : A) (xs : List A) → All P (x ∷ xs) → All P xs
all_later P x xs all = λ j d l. all (ℕ.suc j) d (omega (arith, l))

due_few : (kind : Occurrence → Bool) (os : List Occurrence) (due k : ℕ) → due_of kind os due k ≤ length os
due_few kind [] due k = omega arith
due_few kind (o ∷ os) due k = let rest = due_few kind os due (ℕ.suc k) in let bit = bit_at-lt due k in go (kind o) rest bit
  where
    go : (b : Bool) → due_of kind os due (ℕ.suc k) ≤ length os → bit_at due k < 2
        → (if b then bit_at due k else 0) + due_of kind os due (ℕ.suc k) ≤ ℕ.suc (length os)
    go true rest bit = omega (arith, rest, bit)
    go false rest bit = omega (arith, rest)

-- a list that the plan doesn't have, has no occurrence
few_in : (lists : List Listed) (k : ℕ) → All (λ l. count l.body ≤ 64) lists → count (body_in (slice_get lists k)) ≤ 64
few_in [] k all = omega arith
few_in (l ∷ lists) ℕ.zero all = all_first (λ (x : Listed). count x.body ≤ 64) l lists all
few_in (l ∷ lists) (ℕ.suc k) all = few_in lists k (all_later (λ (x : Listed). count x.body ≤ 64) l lists all)

pub occurrences_few : (plan : Plan) (list : ℕ) → IsWhole plan → length (occurrences_at plan list) ≤ 64
occurrences_few plan list whole = few_in plan.lists list whole.occurrences_most

pub due_for_few : (plan : Plan) (kind : Occurrence → Bool) (es : List Entry) → IsWhole plan → due_for plan kind es ≤ 64 * length es
due_for_few plan kind [] whole = omega arith
due_for_few plan kind (e ∷ es) whole =
    let a = due_few kind (occurrences_at plan e.list) e.due 0 in
    let b = occurrences_few plan e.list whole in
    let c = due_for_few plan kind es whole in
    omega (arith, a, b, c)

left_few : (plan : Plan) (kind : Occurrence → Bool) (workers : List (List Entry)) → IsWhole plan → All (λ es. length es ≤ LARGEST_BATCH) workers
    → total (due_for plan kind) workers ≤ 64 * 65536 * length workers
left_few plan kind [] whole all = omega arith
left_few plan kind (es ∷ workers) whole all =
    let a = due_for_few plan kind es whole in
    let b = all_first (λ (x : List Entry). length x ≤ LARGEST_BATCH) es workers all in
    let c = left_few plan kind workers whole (all_later (λ (x : List Entry). length x ≤ LARGEST_BATCH) es workers all) in
    omega (arith, a, b, c)

-- what workers have left of a kind
pub left_of_few : (board : BoardState) (account : Account) → IsOrderly board account → (kind : Occurrence → Bool) → left_of board.plan kind board.state ≤ 64 * 65536 * 256
left_of_few board account o kind =
    let a = left_few board.plan kind board.state.workers o.whole o.batches in
    let b = o.shaped.workers in
    let c = o.whole.workers_most in
    omega (arith, a, b, c)
