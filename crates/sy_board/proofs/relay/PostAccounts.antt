-- What a post makes of an account.
use Rattle.std.proofs.Common.{◌≡◌, ℕ, ◌+◌, ◌<◌, Bool, true, false, if◌then◌else◌, [], ◌∷◌, ◌++◌, length, refl, ap, arith, set, length-append}
use Rattle.sy_chain.specs.Entries.{Entry}
use Rattle.sy_rules.specs.declared.lists.occurrence.Occurrence.TheVariants as occurrence
use Rattle.sy_rules.specs.PlanValue.{Plan}
use Rattle.sy_rules.specs.Whole.{IsWhole, queue_for}
use Rattle.sy_board.specs.relay.Boards.{Account, BoardState, account_of, guard_of, stepped}
use Rattle.sy_board.specs.relay.Cells.{Cell, IsShaped, RelayState, at}
use Rattle.sy_board.specs.relay.Steps.{Cause, Event, Job, LosesPost, Out, Posts}
use Rattle.sy_board.specs.relay.Totals.{Laws, Totals, in_hands, in_queues, is_guarded_loss, is_post, total}
use Rattle.sy_board.specs.internal.Counting.{after_lost_post, after_post, one_if}
use Rattle.sy_board.proofs.relay.AccountLaws.{advanced_sum, total_set}
use Rattle.sy_board.proofs.relay.There.{list_queue_there, worker_there}

-- a worker's post is one of those that are left
pub post_left : (plan : Plan) (old : RelayState) (w l : ℕ) (t : Totals) → IsShaped plan old → Laws plan old t → Job plan old w (occurrence.Post l) → t.posted + t.lost_post < t.posts_due
post_left plan old w l t shaped laws job =
    let s = advanced_sum plan is_post old w (occurrence.Post l) job (worker_there plan old w shaped job.there) in
    let p = laws.posts in
    omega (arith, s, p)

-- the same account, number by number
same_account : (t : Totals) (posted posted' lost lost' guarded guarded' hands hands' queues queues' : ℕ) → posted ≡ posted' → lost ≡ lost' → guarded ≡ guarded' → hands ≡ hands' → queues ≡ queues'
    → ◌≡◌ {A = Account} (record { totals = record t { posted = posted; lost_post = lost; guarded_lost = guarded }; held_in_hands = hands; held_in_queues = queues })
    (record { totals = record t { posted = posted'; lost_post = lost'; guarded_lost = guarded' }; held_in_hands = hands'; held_in_queues = queues' })
same_account t posted posted' lost lost' guarded guarded' hands hands' queues queues' a b c d e = rw (a, b, c, d, e) refl

pub account_post : (b : BoardState) (w l : ℕ) (node : Entry) (new : RelayState) → IsWhole b.plan → IsShaped b.plan b.state → Posts b.plan b.state w l node false new
    → account_of (stepped b (Event.Post w) new []) ≡ after_post (account_of b)
account_post b w l node new whole shaped posts =
    let q = queue_for b.plan l in
    let more = total_set length b.state.queues q (at b.state (Cell.Queue q) ++ node ∷ []) [] (list_queue_there b.plan b.state l whole shaped) in
    let longer = length-append (at b.state (Cell.Queue q)) (node ∷ []) in
    let queues : in_queues new ≡ total length (set b.state.queues q (at b.state (Cell.Queue q) ++ node ∷ [])) = ap in_queues posts.after in
    same_account b.totals _ _ _ _ _ _ _ _ _ _ refl (omega arith) (omega arith) (ap in_hands posts.after) (omega (arith, more, longer, queues))

guarded_count : (total : ℕ) (a b : Bool) → a ≡ b → total + ((if a then 1 else 0) + 0) ≡ total + one_if b
guarded_count total a b same = rw same (omega arith)

pub account_post_discarded : (b : BoardState) (w l : ℕ) (node : Entry) (new : RelayState) → (posts : Posts b.plan b.state w l node true new)
    → account_of (stepped b (Event.Post w) new (Out.Lost (Cause.Post l) posts.job.entry ∷ [])) ≡ after_lost_post (is_guarded_loss b.plan (guard_of b) (Cause.Post l) posts.job.entry) (account_of b)
account_post_discarded b w l node new posts =
    same_account b.totals _ _ _ _ _ _ _ _ _ _ (omega arith) refl
    (guarded_count b.totals.guarded_lost _ _ refl) (ap in_hands posts.after) (ap in_queues posts.after)

pub account_post_lost : (b : BoardState) (w l : ℕ) (no_memory : Bool) (e : Entry) (new : RelayState) → LosesPost b.plan b.state w l no_memory e new
    → account_of (stepped b (Event.PostLost w no_memory) new (Out.Lost (Cause.PostLost l) e ∷ [])) ≡ after_lost_post (is_guarded_loss b.plan (guard_of b) (Cause.PostLost l) e) (account_of b)
account_post_lost b w l no_memory e new loses =
    same_account b.totals _ _ _ _ _ _ _ _ _ _ refl refl
    (guarded_count b.totals.guarded_lost _ _ refl) (ap in_hands loses.after) (ap in_queues loses.after)
