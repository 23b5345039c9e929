-- Steps that exclude each other.
use Rattle.std.proofs.Common.{◌≡◌, ℕ, ◌<◌, ◌≤◌, Bool, true, false, Option, Some, None, refl, arith}
use Rattle.sy_chain.specs.Entries.{Entry}
use Rattle.sy_rules.specs.declared.lists.occurrence.Occurrence.TheVariants as occurrence
use Rattle.sy_rules.specs.PlanValue.{Plan}
use Rattle.sy_rules.specs.Whole.{queue_for}
use Rattle.sy_marks.specs.declared.marks.Flow.{Flow}
use Rattle.sy_marks.specs.declared.marks.Flow.TheVariants as flow
use Rattle.sy_marks.specs.declared.marks.Hold.TheVariants as hold
use Rattle.sy_marks.specs.declared.marks.Marks.{Marks}
use Rattle.sy_marks.specs.Marks.{is_delayed}
use Rattle.sy_board.specs.relay.Boards.{IsHeldBy}
use Rattle.sy_board.specs.relay.Cells.{RelayState, failures_at, waiting}
use Rattle.sy_board.specs.relay.Plans.{post_flow, retry_at}
use Rattle.sy_board.specs.relay.Steps.{Enters, Expires, Fails, GivesUp, IsFull, LosesPost, MayBeLost, MayTry, Posts, is_post_held}
use Rattle.sy_board.proofs.relay.Marks.{has_room}
use Rattle.sy_board.proofs.relay.Patience.{one_job, one_run}

pub enter_or_expire : (plan : Plan) (old : RelayState) (input number : ℕ) (one other : Entry) (new after : RelayState)
    → Enters plan old input number one new → Expires plan old input number other after → ⊥
enter_or_expire plan old input number one other new after enters expires = let a = enters.room in let b = expires.full in omega (arith, a, b)

again : (retry : Option ℕ) (failures : ℕ) → MayTry retry failures → retry ≡ Some failures → ⊥
again None failures may last = cc
again (Some retry) failures may last = let e : retry ≡ failures = cc in omega (arith, may, e)

pub fail_or_give_up : (plan : Plan) (old : RelayState) (worker a b : ℕ) (one other : Entry) (new after : RelayState)
    → Fails plan old worker a one new → GivesUp plan old worker b other after → ⊥
fail_or_give_up plan old worker a b one other new after fails gives =
    let same : a ≡ b = one_run plan old worker a b fails.job gives.job in
    again (retry_at plan a) (failures_at old worker) fails.again (rw same gives.last)

same_post : (k l : ℕ) → occurrence.Post k ≡ occurrence.Post l → k ≡ l
same_post k l h = cc

pub post_or_lose : (plan : Plan) (old : RelayState) (worker k l : ℕ) (one other : Entry) (new after : RelayState)
    → Posts plan old worker k one false new → LosesPost plan old worker l false other after → ⊥
post_or_lose plan old worker k l one other new after posts loses =
    let same : k ≡ l = same_post k l (one_job plan old worker (occurrence.Post k) (occurrence.Post l) posts.job loses.job) in
    let room = has_room plan old k false posts.room refl in
    let full : IsFull plan old k = rw same loses.cause in
    let below = room.not_full in
    let above = full.full in
    omega (arith, below, above)

both_ways : (b : Bool) → b ≡ true → b ≡ false → ⊥
both_ways b t f = cc

pub held_enters : (plan : Plan) (old : RelayState) (input number : ℕ) (node : Entry) (new : RelayState) → IsHeldBy hold.FullDelay plan old input → Enters plan old input number node new → ⊥
held_enters plan old input number node new held enters = both_ways _ held enters.leaves.not_held

pub held_expires : (plan : Plan) (old : RelayState) (input number : ℕ) (node : Entry) (new : RelayState) → IsHeldBy hold.FullDelay plan old input → Expires plan old input number node new → ⊥
held_expires plan old input number node new held expires = both_ways _ held expires.leaves.not_held

pub held_posts : (plan : Plan) (old : RelayState) (worker list : ℕ) (node : Entry) (new : RelayState) → is_post_held plan old list ≡ true
    → Posts plan old worker list node false new → ⊥
held_posts plan old worker list node new held posts = let room = has_room plan old list false posts.room refl in both_ways _ held room.not_held

-- a mark holds none but those that wait there
waits_if_held : (f : Flow) (marks : Marks) (n : ℕ) → is_delayed f marks n ≡ true → f ≡ flow.Full
waits_if_held flow.Full marks n held = refl
waits_if_held flow.Light marks n held = cc
waits_if_held flow.NoWait marks n held = cc

never_lost : (plan : Plan) (old : RelayState) (list : ℕ) (no_memory : Bool) → is_post_held plan old list ≡ true → MayBeLost plan old list no_memory → ⊥
never_lost plan old list true held may = may (waits_if_held (post_flow plan (queue_for plan list)) _ _ held)
never_lost plan old list false held may = both_ways _ held may.not_held

pub held_loses : (plan : Plan) (old : RelayState) (worker list : ℕ) (no_memory : Bool) (entry : Entry) (new : RelayState) → is_post_held plan old list ≡ true
    → LosesPost plan old worker list no_memory entry new → ⊥
held_loses plan old worker list no_memory entry new held loses = never_lost plan old list no_memory held loses.cause
