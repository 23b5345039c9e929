-- What is asked of a plan by a guard, and what a relay with such a plan then keeps (this profile's own).
use Rattle.std.specs.Prelude.{◌≡◌, ℕ, ◌+◌, ◌*◌, ◌<◌, ◌≤◌, ◌⊎◌, true, All, Contains, List, length}
use Rattle.std.specs.Int.{bit_at}
use Rattle.sy_wire.specs.declared.class.Class.{Class}
use Rattle.sy_chain.specs.Entries.{Entry}
use Rattle.sy_rules.specs.declared.lists.occurrence.Occurrence.TheVariants as occurrence
use Rattle.sy_rules.specs.PlanValue.{Plan}
use Rattle.sy_rules.specs.Whole.{body_at, queue_for}
use Rattle.sy_rules.specs.lists.Work.{May}
use Rattle.sy_board.specs.relay.Cells.{Cell, RelayState, at, waiting}
use Rattle.sy_board.specs.relay.Feeders.{IsWithinMarks, OnlyFullDelay}
use Rattle.sy_board.specs.relay.Kinds.{HoldsAt, Kind}
use Rattle.sy_board.specs.relay.Plans.{parameters_at, queue_of_input}
use Rattle.sy_board.specs.relay.Spares.{Follows, MayDo, Scope}
use Rattle.sy_board.specs.relay.Totals.{GuardState, Pairs, is_guarded}

-- A pair of an input that the plan has. Those of other inputs guard nothing.
pub record IsPairOf (plan : Plan) (pairs : Pairs) (input : ℕ) (class : Class) : Type 0 where
  pub there : input < length plan.inputs
  pub pair : Contains pairs (input, class)

-- The condition of a guard: at none of its pairs one of the kinds holds.
abbrev pub MayGuard : Plan → GuardState → Type 0
MayGuard plan guard =
    (input : ℕ) (class : Class) → IsPairOf plan guard.pairs input class → (kind : Kind) → HoldsAt plan guard.spares class input kind → ⊥

-- A post that isn't spare puts entries that follow this list into this queue: the post of a list that messages of the class may follow from the input on.
pub record ArePosted (plan : Plan) (spares : List ℕ) (class : Class) (input list queue : ℕ) : Type 0 where
  pub from : ℕ
  pub follows : Follows plan spares class Scope.Firm input from
  pub number : ℕ
  pub does : MayDo plan spares class Scope.Firm from number (occurrence.Post list)
  pub into : queue_for plan list ≡ queue

-- The queue of a pair's input, or one that such posts put its entries into.
abbrev pub IsGuardedQueue : Plan → List ℕ → ℕ → Class → ℕ → Type 0
IsGuardedQueue plan spares input class queue =
    (queue_of_input plan input ≡ queue) ⊎ ((list : ℕ) × ArePosted plan spares class input list queue)

-- Each queue of a pair, where all its feeders are full-delay feeders, is no longer than its full-delay mark.
abbrev pub IsWithinGuard : Plan → GuardState → RelayState → Type 0
IsWithinGuard plan guard state = (input : ℕ) (class : Class) → IsPairOf plan guard.pairs input class
    → (queue : ℕ) → IsGuardedQueue plan guard.spares input class queue → OnlyFullDelay plan queue
    → waiting state queue ≤ (parameters_at plan queue).full_delay_mark

-- ---- what each step keeps

-- where an entry may be: in a hand of its input; in its input's queue, or where such posts put it; and at a worker
abbrev pub IsPlaceOf : Plan → List ℕ → Entry → Cell → Type 0
IsPlaceOf plan spares entry (Cell.Hand k) = (number : ℕ) × (number < 64) × (k ≡ 64 * entry.input + number)
IsPlaceOf plan spares entry (Cell.Queue k) =
    (queue_of_input plan entry.input ≡ k) ⊎ ArePosted plan spares entry.message.class entry.input entry.list k
IsPlaceOf plan spares entry (Cell.Worker k) = Unit {0}

-- The entry is where it may be, it follows a list that its class may follow from its input on by posts that aren't spare, and what is due of it its
-- class may execute.
pub record IsOnItsWay (plan : Plan) (spares : List ℕ) (cell : Cell) (entry : Entry) : Type 0 where
  pub there : entry.input < length plan.inputs
  pub place : IsPlaceOf plan spares entry cell
  pub follows : Follows plan spares entry.message.class Scope.Firm entry.input entry.list
  pub due : (number : ℕ) → bit_at entry.due number ≡ 1 → May (body_at plan entry.list) entry.message.class number

-- Queues are within their marks, and each guarded entry is on its way.
pub record IsGuarding (plan : Plan) (guard : GuardState) (state : RelayState) : Type 0 where
  pub marks : IsWithinMarks plan state
  pub entries : (cell : Cell) → All (λ entry. is_guarded plan guard entry ≡ true → IsOnItsWay plan guard.spares cell entry) (at state cell)
