-- A worker has one job, and one entry is made of it where it is a post.
use Rattle.std.proofs.Common.{◌≡◌, ◌<◌, ◌≤◌, if◌then◌else◌, inl, inr, ℕ, true, List, [], ◌∷◌, Option, Some, None, All, length, refl, sym, ap, subst, arith, ◌∙◌}
use Rattle.std.specs.Prelude.{IfNone, IfSome, is_some, slice_get}
use Rattle.std.proofs.lemmas.Bool.Decides.{nat_tests}
use Rattle.std.proofs.lemmas.Option.{get_or_from_slice_get, slice_get_within}
use Rattle.sy_wire.specs.Messages.{Said}
use Rattle.sy_chain.specs.Entries.{Entry}
use Rattle.sy_rules.specs.PlanValue.{Listed, Plan}
use Rattle.sy_rules.specs.Whole.{IsWhole, Leads, body_in, queue_at, queue_for, queue_in}
use Rattle.sy_rules.specs.lists.Body.{occurrences}
use Rattle.sy_rules.specs.declared.lists.occurrence.Occurrence.TheVariants as occurrence
use Rattle.sy_board.specs.declared.fault.BoardFault.{BoardFault}
use Rattle.sy_board.specs.declared.fault.BoardFault.TheVariants as fault
use Rattle.sy_board.specs.declared.relay.answers.Posted.TheVariants as posted
use Rattle.sy_board.specs.declared.relay.answers.PostCause.TheVariants as cause
use Rattle.sy_board.specs.relay.Boards.{BoardState, HasNoJob, HasNoPost, IsForPost, PostFails, PostIs, PostLostIs}
use Rattle.sy_board.specs.relay.Cells.{RelayState, waiting}
use Rattle.sy_board.specs.relay.Plans.{IsDue, marks_at, parameters_at}
use Rattle.sy_board.specs.relay.Steps.{Job, is_post_held}
use Rattle.sy_marks.specs.declared.marks.Flow.TheVariants as flow
use Rattle.sy_marks.specs.Marks.{is_delayed, is_reached}
use Rattle.sy_board.proofs.relay.Outcomes.{jobs_same}
use Rattle.sy_runtime.specs.internal.Finding.{IsHeldAtMark, PatienceIs, PostRefused, PostWas, WaitsAtMark}
use Rattle.sy_runtime.specs.declared.worker.posting.PostOutcome.TheVariants.{Done, Held}

run_or_post : (a l : ℕ) → occurrence.Run a ≡ occurrence.Post l → ⊥
run_or_post a l h = cc

pub no_post : (old : BoardState) (w action : ℕ) → Job old.plan old.state w (occurrence.Run action) → HasNoPost old w
no_post old w action job = λ list other.
    run_or_post action list (jobs_same old.plan old.state w (occurrence.Run action) (occurrence.Post list) job other).0

pub no_post_at_all : (old : BoardState) (w : ℕ) → HasNoJob old w → HasNoPost old w
no_post_at_all old w none = λ list job. none (occurrence.Post list) job

same_post : (a b : ℕ) → occurrence.Post a ≡ occurrence.Post b → a ≡ b
same_post a b h = cc

-- all posts that are a worker's job are to one list
pub one_list : (plan : Plan) (state : RelayState) (w k l : ℕ) → Job plan state w (occurrence.Post k) → Job plan state w (occurrence.Post l) → k ≡ l
one_list plan state w k l a b = same_post k l (jobs_same plan state w (occurrence.Post k) (occurrence.Post l) a b).0

-- the entry that is made of a post is the job's
pub posts_made : (old : BoardState) (w list input tag : ℕ) (message : Said) (job : Job old.plan old.state w (occurrence.Post list))
    → input ≡ job.entry.input → message ≡ job.entry.message → tag ≡ job.entry.tag → (due : ℕ) (node : Entry)
    → IsDue old.plan list message due → node ≡ record { message = message; list = list; input = input; due = due; tag = tag } → IsForPost old w node
posts_made old w list input tag message job its_input its_message its_tag due node is are = subst (IsForPost old w) (sym are) (λ l other.
    let same = (jobs_same old.plan old.state w (occurrence.Post list) (occurrence.Post l) job other).1 in
    let list_is : list ≡ l = one_list old.plan old.state w list l job other in
    record {
      message = its_message ∙ ap (λ (e : Entry). e.message) same;
      list_is = list_is;
      input = its_input ∙ ap (λ (e : Entry). e.input) same;
      tag = its_tag ∙ ap (λ (e : Entry). e.tag) same;
      due = subst (λ k. IsDue old.plan k other.entry.message due) list_is
          (subst (λ m. IsDue old.plan list m due) (its_message ∙ ap (λ (e : Entry). e.message) same) is);
    })

at_or_none : {A : Type 0} (P : A → Type 0) (xs : List A) (k : ℕ) → All P xs → IfSome (slice_get xs k) P
at_or_none P [] k all = tt
at_or_none P (x ∷ xs) ℕ.zero all = all 0 x (omega arith)
at_or_none P (x ∷ xs) (ℕ.suc k) all = at_or_none P xs k (λ j d l. all (ℕ.suc j) d (omega (arith, l)))

lead_in : (plan : Plan) (found : Option Listed) → IfSome found (λ l. All (Leads plan) (occurrences l.body)) → (number list : ℕ)
    → slice_get (occurrences (body_in found)) number ≡ Some (occurrence.Post list) → is_some (queue_at plan list) ≡ true
lead_in plan None all number list is = absurd (cc)
lead_in plan (Some l) all number list is =
    let k = slice_get_within (occurrences l.body) number (occurrence.Post list) is in
    subst (Leads plan) (get_or_from_slice_get (occurrences l.body) number (occurrence.Post list) (occurrence.Post list) is) (all number (occurrence.Post list) k)

there_in : (lists : List Listed) (list : ℕ) (found : Option Listed) → slice_get lists list ≡ found → is_some (queue_in found) ≡ true → list < length lists
there_in lists list None is leads = absurd (cc)
there_in lists list (Some l) is leads = slice_get_within lists list l is

-- a list that a job posts to is there
pub list_there : (plan : Plan) (state : RelayState) (w list : ℕ) → IsWhole plan → Job plan state w (occurrence.Post list) → list < length plan.lists
list_there plan state w list whole job = there_in plan.lists list (slice_get plan.lists list) refl
    (lead_in plan (slice_get plan.lists job.entry.list) (at_or_none (λ x. All (Leads plan) (occurrences x.body)) plan.lists job.entry.list whole.occurrences_lead)
    job.number list job.found)

-- ---- how long a held post waits

-- of all lists that a worker's job posts to
pub patience_of : (list other : ℕ) (time : Option ℕ) (plan : Plan) → PatienceIs time (parameters_at plan (queue_for plan list)) → list ≡ other
    → PatienceIs time (parameters_at plan (queue_for plan other))
patience_of list other time plan is same = subst (λ l. PatienceIs time (parameters_at plan (queue_for plan l))) same is

reached : (mark waits : ℕ) → 0 < mark → mark ≤ waits → is_reached mark waits ≡ true
reached mark waits on there = grind (arith, nat_tests)

-- where the queue is full the mark holds posts
held_there : (plan : Plan) (state : RelayState) (list : ℕ) → WaitsAtMark (parameters_at plan (queue_for plan list))
    → (parameters_at plan (queue_for plan list)).size ≤ waiting state (queue_for plan list) → is_post_held plan state list ≡ true
held_there plan state list mark full =
    let queue = parameters_at plan (queue_for plan list) in
    let marks = marks_at plan (queue_for plan list) in
    subst (λ waits. is_delayed (if waits then flow.Full else flow.NoWait) marks (waiting state (queue_for plan list)) ≡ true) (sym mark.0)
    (reached queue.full_delay_mark (waiting state (queue_for plan list)) mark.1 (omega (arith, mark.2, full)))

pub held_at_mark : (old : BoardState) (w : ℕ) → ((list : ℕ) → Job old.plan old.state w (occurrence.Post list)
    → WaitsAtMark (parameters_at old.plan (queue_for old.plan list))) → (node back : Entry) (new : BoardState)
    → PostIs (posted.Held back) old w node new → IsHeldAtMark old w
held_at_mark old w marks node back new (same, unchanged, list, job, kept, inl held) = (list, job, held)
held_at_mark old w marks node back new (same, unchanged, list, job, kept, inr full) =
    (list, job, held_there old.plan old.state list (marks list job) full)

pub held_if_none : (old : BoardState) (w list : ℕ) (time : Option ℕ) → Job old.plan old.state w (occurrence.Post list)
    → PatienceIs time (parameters_at old.plan (queue_for old.plan list))
    → IfNone time ((node back : Entry) → (new : BoardState) → PostIs (posted.Held back) old w node new → IsHeldAtMark old w)
held_if_none old w list None job is =
    held_at_mark old w (λ l other. patience_of list l None old.plan is (one_list old.plan old.state w list l job other))
held_if_none old w list (Some time) job is = tt

-- ---- what became of a post

pub no_job_refused : (old : BoardState) (w : ℕ) → HasNoPost old w → PostRefused old w
no_job_refused old w none = inl none

pub post_refused : (why : BoardFault) (old : BoardState) (w : ℕ) (node : Entry) → PostFails why old w node → PostRefused old w
post_refused fault.HandTaken old w node fails = absurd fails
post_refused fault.HandEmpty old w node fails = absurd fails
post_refused fault.SlotBusy old w node fails = absurd fails
post_refused fault.NoJob old w node fails = inl fails
post_refused fault.WrongReceipt old w node fails = absurd fails
post_refused fault.TotalsFull old w node fails = inr (inl (node, fails))
post_refused fault.NotExpired old w node fails = absurd fails

pub post_done : (old : BoardState) (w : ℕ) (node : Entry) (new : BoardState) → PostIs posted.Done old w node new → PostWas Done old w new
post_done old w node new is = inl (node, is)

pub post_discarded : (old : BoardState) (w : ℕ) (node lost : Entry) (new : BoardState) → PostIs (posted.Discarded lost) old w node new → PostWas Done old w new
post_discarded old w node lost new (same, list, posts, is) = inr (inl (node, (refl, list, posts, is)))

pub post_lost : (old : BoardState) (w : ℕ) (new : BoardState) → PostLostIs cause.NoMemory old w new → PostWas Done old w new
post_lost old w new is = inr (inr is)

pub post_held : (old : BoardState) (w : ℕ) (node back : Entry) (new : BoardState) → PostIs (posted.Held back) old w node new → PostWas Held old w new
post_held old w node back new (same, unchanged, list, job, kept, full) = (node, (refl, unchanged, list, job, kept, full))
