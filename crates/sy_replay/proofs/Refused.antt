-- What a board's refusals mean for an event.
use Rattle.std.proofs.Common.{◌≡◌, ◌≢◌, ℕ, ◌<◌, ◌≤◌, ◌⊎◌, inl, inr, Bool, true, false, List, [], ◌∷◌, map, Option, Some, None, All, length, refl, sym, ap, subst, arith, ◌∙◌}
use Rattle.std.specs.Prelude.{IfSome, slice_get}
use Rattle.std.proofs.lemmas.Bool.{true≢false}
use Rattle.std.proofs.lemmas.Option.{get_or_from_slice_get, slice_get_within}
use Rattle.sy_wire.specs.Messages.{Said}
use Rattle.sy_chain.specs.Entries.{Entry}
use Rattle.sy_actions.specs.Devices.{Refused}
use Rattle.sy_actions.specs.declared.device.DeviceFault.TheVariants as device_fault
use Rattle.sy_rules.specs.declared.lists.occurrence.Occurrence.{Occurrence}
use Rattle.sy_rules.specs.declared.lists.occurrence.Occurrence.TheVariants as occurrence
use Rattle.sy_rules.specs.PlanValue.{Listed, Plan}
use Rattle.sy_rules.specs.lists.Body.{occurrences}
use Rattle.sy_rules.specs.Whole.{IsWhole, Leads, body_in, queue_for}
use Rattle.sy_marks.specs.declared.marks.Hold.{Hold}
use Rattle.sy_marks.specs.declared.marks.Hold.TheVariants as hold
use Rattle.sy_marks.specs.Marks.{discards}
use Rattle.sy_board.specs.declared.fault.BoardFault.{BoardFault}
use Rattle.sy_board.specs.declared.fault.BoardFault.TheVariants as fault
use Rattle.sy_board.specs.declared.relay.answers.Posted.TheVariants as posted
use Rattle.sy_board.specs.declared.relay.answers.PostCause.{PostCause}
use Rattle.sy_board.specs.relay.Boards.{BoardState, EnterFails, ExpireFails, FailFails, GrabFails, HasNoJob, HasNoPost, HasNoRun, IsFailureOf, IsForPost, IsHeldBy, IsOf, IsTooFull, NothingWaits, PostFails, PostIs, PostLostFails, SettleFails, TakeFails, is_no_memory, stepped}
use Rattle.sy_board.specs.relay.Cells.{RelayState, failures_at, first_list, followed_at, waiting}
use Rattle.sy_board.specs.relay.Plans.{IsDue, input_at, marks_at, parameters_at, retry_at}
use Rattle.sy_board.specs.relay.Steps.{Cause, Event, HasRoom, IsHand, IsOfInput, Job, MayBeLost, MayTry, Out, Step, if_so, is_post_held}
use Rattle.sy_board.proofs.relay.Excluded.{held_enters, held_expires}
use Rattle.sy_board.proofs.relay.Outcomes.{jobs_same, one_taken}
use Rattle.sy_replay.specs.declared.event.Illegal.{Illegal}
use Rattle.sy_replay.specs.declared.event.Illegal.TheVariants as illegal
use Rattle.sy_replay.specs.internal.Events.{IsIllegal, illegal_of}
use Rattle.sy_replay.specs.internal.Parts.{IsNoTake}
use Rattle.sy_replay.specs.internal.Jobs.{Answer, IsNoAnswer, IsPostJob, IsRunJob, NoPostJob, NoRunJob}

not_both : {A : Type 0} (xs : List A) (x : A) (ys : List A) → xs ≡ [] → xs ≡ x ∷ ys → ⊥
not_both xs x ys none some = let e : [] ≡ x ∷ ys = sym none ∙ some in cc

pub take_refused : (f : BoardFault) (old : BoardState) (i h : ℕ) (node : Entry) → TakeFails f old i h node → IsIllegal (illegal_of f) old (Event.Take i h node)
take_refused fault.HandTaken old i h node taken = λ new outs (lost, takes, is). taken takes.free
take_refused fault.HandEmpty old i h node e = absurd e
take_refused fault.SlotBusy old i h node e = absurd e
take_refused fault.NoJob old i h node e = absurd e
take_refused fault.WrongReceipt old i h node e = absurd e
take_refused fault.TotalsFull old i h node (lost, new, takes, full) = (new, if_so lost (Out.Lost Cause.Take node), (lost, takes, refl), full)
take_refused fault.NotExpired old i h node e = absurd e

pub enter_held : (by : Hold) (old : BoardState) (i h : ℕ) → IsHeldBy by old.plan old.state i → IsIllegal illegal.NotAStep old (Event.Enter i h)
enter_held hold.FullDelay old i h held = λ new outs (node, enters, is). held_enters old.plan old.state i h node new held enters
enter_held hold.Full old i h held = λ new outs (node, enters, is). let room = enters.room in let full = held.1 in omega (arith, room, full)
enter_held hold.LightDelay old i h held = absurd held
enter_held hold.Clear old i h held = absurd held

pub enter_refused : (f : BoardFault) (old : BoardState) (i h : ℕ) → EnterFails f old i h → IsIllegal (illegal_of f) old (Event.Enter i h)
enter_refused fault.HandTaken old i h e = absurd e
enter_refused fault.HandEmpty old i h e = λ new outs (node, enters, is). not_both _ node [] e enters.leaves.held
enter_refused fault.SlotBusy old i h e = absurd e
enter_refused fault.NoJob old i h e = absurd e
enter_refused fault.WrongReceipt old i h e = absurd e
enter_refused fault.TotalsFull old i h (node, new, enters, full) = (new, [], (node, enters, refl), full)
enter_refused fault.NotExpired old i h e = absurd e

pub expire_refused : (f : BoardFault) (old : BoardState) (i h : ℕ) → ExpireFails f old i h → IsIllegal (illegal_of f) old (Event.Expire i h)
expire_refused fault.HandTaken old i h e = absurd e
expire_refused fault.HandEmpty old i h e = λ new outs (node, expires, is). not_both _ node [] e expires.leaves.held
expire_refused fault.SlotBusy old i h e = absurd e
expire_refused fault.NoJob old i h e = absurd e
expire_refused fault.WrongReceipt old i h e = absurd e
expire_refused fault.TotalsFull old i h (node, new, expires, full) = (new, Out.Lost Cause.Expire node ∷ [], (node, expires, refl), full)
expire_refused fault.NotExpired old i h (some, why) = λ new outs (node, expires, is). elim why [
  | inl held ↦ held_expires old.plan old.state i h node new held expires
  | inr room ↦ (let full = expires.full in omega (arith, room, full))
]

pub nothing_grabbed : (old : BoardState) (w : ℕ) → NothingWaits old w → IsIllegal illegal.NotAStep old (Event.Grab w)
nothing_grabbed old w waits = λ new outs (lost, grabs, is). let some = grabs.some in let none = waits.none in omega (arith, some, none)

pub grab_refused : (f : BoardFault) (old : BoardState) (w : ℕ) → GrabFails f old w → IsIllegal (illegal_of f) old (Event.Grab w)
grab_refused fault.HandTaken old w e = absurd e
grab_refused fault.HandEmpty old w e = absurd e
grab_refused fault.SlotBusy old w e = λ new outs (lost, grabs, is). e grabs.idle
grab_refused fault.NoJob old w e = absurd e
grab_refused fault.WrongReceipt old w e = absurd e
grab_refused fault.TotalsFull old w (lost, new, grabs, full) = (new, map (Out.Lost Cause.Grab) lost, (lost, grabs, refl), full)
grab_refused fault.NotExpired old w e = absurd e

-- ---- a worker's job

-- the list that the entry of a worker's job follows
pub followed_is : (board : BoardState) (w followed : ℕ) {is : Occurrence} → (job : Job board.plan board.state w is) → followed_at board.state w ≡ Some followed
    → job.entry.list ≡ followed
followed_is board w followed job e = let same : Some job.entry.list ≡ Some followed = sym (ap first_list job.held) ∙ e in cc

-- without an entry there is no job
pub nothing_followed : (board : BoardState) (w : ℕ) (is : Occurrence) → Job board.plan board.state w is → followed_at board.state w ≡ None → ⊥
nothing_followed board w is job e = let none : Some job.entry.list ≡ None = sym (ap first_list job.held) ∙ e in cc

pub again : (retry : Option ℕ) (failures : ℕ) → MayTry retry failures → retry ≡ Some failures → ⊥
again None failures may last = cc
again (Some retry) failures may last = let e : retry ≡ failures = cc in omega (arith, may, e)

pub settle_refused : (f : BoardFault) (old : BoardState) (w action list tag : ℕ) (message : Said) → IsRunJob old w action list message tag
    → SettleFails f old w (record { device = action; message = message }) → IsNoAnswer (illegal_of f) Answer.Done old w
settle_refused fault.HandTaken old w action list tag message job e = absurd e
settle_refused fault.HandEmpty old w action list tag message job e = absurd e
settle_refused fault.SlotBusy old w action list tag message job e = absurd e
settle_refused fault.NoJob old w action list tag message job e = absurd (e action job.job)
settle_refused fault.WrongReceipt old w action list tag message job e = absurd (e.1 (record { run = job.job; its = job.its_message }))
settle_refused fault.TotalsFull old w action list tag message job (of, new, settles, full) =
    λ took. (new, Out.Passed action of.run.entry ∷ [], (action, of.run.entry, settles, refl), full)
settle_refused fault.NotExpired old w action list tag message job e = absurd e

-- a failure of the job's action and message is of the job
is_of : (old : BoardState) (w action list tag : ℕ) (message : Said) (failure : Refused) → IsRunJob old w action list message tag
    → failure.device ≡ action → failure.message ≡ message → failure.fault ≢ device_fault.CountFull → IsFailureOf old w failure
is_of old w action list tag message failure job d m o = record {
  of = subst (λ x. IsOf old w x failure.message) (sym d) (subst (λ x. IsOf old w action x) (sym m) (record { run = job.job; its = job.its_message }));
  offered = o;
}

pub fail_refused : (f : BoardFault) (old : BoardState) (w action list tag : ℕ) (message : Said) (failure : Refused) → IsRunJob old w action list message tag
    → failure.device ≡ action → failure.message ≡ message → failure.fault ≢ device_fault.CountFull
    → MayTry (retry_at old.plan action) (failures_at old.state w)
    → FailFails f old w failure → IsNoAnswer (illegal_of f) Answer.Fail old w
fail_refused fault.HandTaken old w action list tag message failure job d m o may e = absurd e
fail_refused fault.HandEmpty old w action list tag message failure job d m o may e = absurd e
fail_refused fault.SlotBusy old w action list tag message failure job d m o may e = absurd e
fail_refused fault.NoJob old w action list tag message failure job d m o may e = absurd (e action job.job)
fail_refused fault.WrongReceipt old w action list tag message failure job d m o may e = absurd (e.1 (is_of old w action list tag message failure job d m o))
fail_refused fault.TotalsFull old w action list tag message failure job d m o may (is, new, gives, full) =
    absurd (again (retry_at old.plan action) (failures_at old.state w) may (subst (λ a. retry_at old.plan a ≡ Some (failures_at old.state w)) d gives.last))
fail_refused fault.NotExpired old w action list tag message failure job d m o may e = absurd e

-- whether the device took the message, isn't counted
still_full : (old : BoardState) (w : ℕ) (new : RelayState) (action : ℕ) (e : Entry) (took : Bool)
    → IsTooFull (stepped old (Event.GiveUp w false) new (Out.Lost (Cause.GiveUp action) e ∷ []))
    → IsTooFull (stepped old (Event.GiveUp w took) new (Out.Lost (Cause.GiveUp action) e ∷ if_so took (Out.Passed action e)))
still_full old w new action e true full = full
still_full old w new action e false full = full

pub give_up_refused : (f : BoardFault) (old : BoardState) (w action list tag : ℕ) (message : Said) (failure : Refused) → IsRunJob old w action list message tag
    → failure.device ≡ action → failure.message ≡ message → failure.fault ≢ device_fault.CountFull
    → FailFails f old w failure → IsNoAnswer (illegal_of f) Answer.GiveUp old w
give_up_refused fault.HandTaken old w action list tag message failure job d m o e = absurd e
give_up_refused fault.HandEmpty old w action list tag message failure job d m o e = absurd e
give_up_refused fault.SlotBusy old w action list tag message failure job d m o e = absurd e
give_up_refused fault.NoJob old w action list tag message failure job d m o e = absurd (e action job.job)
give_up_refused fault.WrongReceipt old w action list tag message failure job d m o e = absurd (e.1 (is_of old w action list tag message failure job d m o))
give_up_refused fault.TotalsFull old w action list tag message failure job d m o (is, new, gives, full) =
    λ took. (
      new,
      Out.Lost (Cause.GiveUp failure.device) is.of.run.entry ∷ if_so took (Out.Passed failure.device is.of.run.entry),
      (failure.device, is.of.run.entry, gives, refl),
      still_full old w new failure.device is.of.run.entry took full,
    )
give_up_refused fault.NotExpired old w action list tag message failure job d m o e = absurd e

run_or_post : (a l : ℕ) → occurrence.Run a ≡ occurrence.Post l → ⊥
run_or_post a l h = cc

pub no_run : (old : BoardState) (w list : ℕ) → Job old.plan old.state w (occurrence.Post list) → HasNoRun old w
no_run old w list job = λ action other.
    run_or_post action list (jobs_same old.plan old.state w (occurrence.Run action) (occurrence.Post list) other job).0

pub no_post : (old : BoardState) (w action : ℕ) → Job old.plan old.state w (occurrence.Run action) → HasNoPost old w
no_post old w action job = λ list other.
    run_or_post action list (jobs_same old.plan old.state w (occurrence.Run action) (occurrence.Post list) job other).0

pub no_run_at_all : (old : BoardState) (w : ℕ) → HasNoJob old w → HasNoRun old w
no_run_at_all old w none = λ action job. none (occurrence.Run action) job

pub no_post_at_all : (old : BoardState) (w : ℕ) → HasNoJob old w → HasNoPost old w
no_post_at_all old w none = λ list job. none (occurrence.Post list) job

-- where no job of the kind is given, no step of it is made
pub no_run_steps : (why : Illegal) (answer : Answer) (old : BoardState) (w : ℕ) → NoRunJob why old w → IsNoAnswer why answer old w
no_run_steps illegal.NotAStep Answer.Done old w none = λ took new outs (a, e, settles, is). none a settles.job
no_run_steps illegal.NotAStep Answer.Fail old w none = λ took new outs (a, e, fails, is). none a fails.job
no_run_steps illegal.NotAStep Answer.GiveUp old w none = λ took new outs (a, e, gives, is). none a gives.job
no_run_steps illegal.NoMemory answer old w none = λ took. tt
no_run_steps illegal.TotalsFull answer old w none = absurd none

pub no_post_steps : (why : Illegal) (old : BoardState) (w : ℕ) → NoPostJob why old w → IsIllegal why old (Event.Post w)
no_post_steps illegal.NotAStep old w none = λ new outs (l, n, lost, posts, is). none l posts.job
no_post_steps illegal.NoMemory old w none = tt
no_post_steps illegal.TotalsFull old w none = absurd none

pub no_lost_posts : (why : Illegal) (old : BoardState) (w : ℕ) (no_memory : Bool) → NoPostJob why old w → IsIllegal why old (Event.PostLost w no_memory)
no_lost_posts illegal.NotAStep old w no_memory none = λ new outs (l, n, loses, is). none l loses.job
no_lost_posts illegal.NoMemory old w no_memory none = tt
no_lost_posts illegal.TotalsFull old w no_memory none = absurd none

-- ---- posts

same_post : (a b : ℕ) → occurrence.Post a ≡ occurrence.Post b → a ≡ b
same_post a b h = cc

pub one_list : (plan : Plan) (state : RelayState) (w k l : ℕ) → Job plan state w (occurrence.Post k) → Job plan state w (occurrence.Post l) → k ≡ l
one_list plan state w k l a b = same_post k l (jobs_same plan state w (occurrence.Post k) (occurrence.Post l) a b).0

-- a mark holds posts to the list, or its queue is full
abbrev IsShut : Plan → RelayState → ℕ → Type 0
IsShut plan state list =
    (is_post_held plan state list ≡ true) ⊎ ((parameters_at plan (queue_for plan list)).size ≤ waiting state (queue_for plan list))

no_room : (plan : Plan) (state : RelayState) (list : ℕ) (lost : Bool) → lost ≡ false → IsShut plan state list → (lost ≡ true) ⊎ HasRoom plan state list → ⊥
no_room plan state list lost e shut (inl t) = cc
no_room plan state list lost e (inl held) (inr room) = true≢false (sym held ∙ room.not_held)
no_room plan state list lost e (inr full) (inr room) = let less = room.not_full in omega (arith, less, full)

pub post_held : (old new : BoardState) (w : ℕ) (node back : Entry) → IsForPost old w node → PostIs (posted.Held back) old w node new
    → IsIllegal illegal.NotAStep old (Event.Post w)
post_held old new w node back made (same, unchanged, list, job, kept, shut) = λ after outs (l, n, lost, posts, is).
    let other : l ≡ list = one_list old.plan old.state w l list posts.job job in
    let entry : posts.job.entry ≡ job.entry = (jobs_same old.plan old.state w (occurrence.Post l) (occurrence.Post list) posts.job job).1 in
    let message : n.message ≡ node.message = posts.made.message ∙ ap (λ (e : Entry). e.message) entry ∙ sym (made list job).message in
    let judged : discards (marks_at old.plan (queue_for old.plan l)) n.message.class.severity (waiting old.state (queue_for old.plan l)) ≡ false =
    subst (λ (m : Said). discards (marks_at old.plan (queue_for old.plan l)) m.class.severity (waiting old.state (queue_for old.plan l)) ≡ false) (sym message)
    (subst (λ q. discards (marks_at old.plan (queue_for old.plan q)) node.message.class.severity (waiting old.state (queue_for old.plan q)) ≡ false) (sym other) kept) in
    no_room old.plan old.state l lost (sym posts.discarded ∙ judged) (subst (IsShut old.plan old.state) (sym other) shut) posts.room

pub post_refused : (f : BoardFault) (old : BoardState) (w : ℕ) (node : Entry) → PostFails f old w node → IsIllegal (illegal_of f) old (Event.Post w)
post_refused fault.HandTaken old w node e = absurd e
post_refused fault.HandEmpty old w node e = absurd e
post_refused fault.SlotBusy old w node e = absurd e
post_refused fault.NoJob old w node e = λ new outs (l, n, lost, posts, is). e l posts.job
post_refused fault.WrongReceipt old w node e = absurd e
post_refused fault.TotalsFull old w node (l, lost, new, posts, full) = (new, if_so lost (Out.Lost (Cause.Post l) posts.job.entry), (l, node, lost, posts, refl), full)
post_refused fault.NotExpired old w node e = absurd e

pub post_lost_refused : (f : BoardFault) (why : PostCause) (old : BoardState) (w : ℕ) → PostLostFails f why old w
    → IsIllegal (illegal_of f) old (Event.PostLost w (is_no_memory why))
post_lost_refused fault.HandTaken why old w e = absurd e
post_lost_refused fault.HandEmpty why old w e = absurd e
post_lost_refused fault.SlotBusy why old w e = absurd e
post_lost_refused fault.NoJob why old w e = λ new outs (l, n, loses, is). e l loses.job
post_lost_refused fault.WrongReceipt why old w e = absurd e
post_lost_refused fault.TotalsFull why old w (l, n, new, loses, full) = (new, Out.Lost (Cause.PostLost l) n ∷ [], (l, n, loses, refl), full)
post_lost_refused fault.NotExpired why old w (list, job, never) = λ new outs (l, n, loses, is).
    never (subst (λ k. MayBeLost old.plan old.state k (is_no_memory why)) (one_list old.plan old.state w l list loses.job job) loses.cause)

-- the entry that is made of a post is the job's
pub posts_made : (old : BoardState) (w list followed input tag : ℕ) (message : Said) → IsPostJob old w list followed input message tag → (due : ℕ) (node : Entry)
    → IsDue old.plan list message due → node ≡ record { message = message; list = list; input = input; due = due; tag = tag } → IsForPost old w node
posts_made old w list followed input tag message job due node is are = subst (IsForPost old w) (sym are) (λ l other.
    let same = (jobs_same old.plan old.state w (occurrence.Post list) (occurrence.Post l) job.job other).1 in
    let list_is : list ≡ l = one_list old.plan old.state w list l job.job other in
    record {
      message = sym job.its_message ∙ ap (λ (e : Entry). e.message) same;
      list_is = list_is;
      input = sym job.its_input ∙ ap (λ (e : Entry). e.input) same;
      tag = sym job.its_tag ∙ ap (λ (e : Entry). e.tag) same;
      due = subst (λ k. IsDue old.plan k other.entry.message due) list_is
          (subst (λ m. IsDue old.plan list m due) (sym job.its_message ∙ ap (λ (e : Entry). e.message) same) is);
    })

at_or_none : {A : Type 0} (P : A → Type 0) (xs : List A) (k : ℕ) → All P xs → IfSome (slice_get xs k) P
at_or_none P [] k all = tt
at_or_none P (x ∷ xs) ℕ.zero all = all 0 x (omega arith)
at_or_none P (x ∷ xs) (ℕ.suc k) all = at_or_none P xs k (λ j d l. all (ℕ.suc j) d (omega (arith, l)))

-- an action that a job runs is there
lead_in : (plan : Plan) (found : Option Listed) → IfSome found (λ l. All (Leads plan) (occurrences l.body)) → (number action : ℕ)
    → slice_get (occurrences (body_in found)) number ≡ Some (occurrence.Run action) → action < length plan.actions
lead_in plan None all number action is = absurd (cc)
lead_in plan (Some l) all number action is =
    let k = slice_get_within (occurrences l.body) number (occurrence.Run action) is in
    subst (Leads plan) (get_or_from_slice_get (occurrences l.body) number (occurrence.Run action) (occurrence.Run action) is) (all number (occurrence.Run action) k)

pub run_there : (plan : Plan) (state : RelayState) (w action : ℕ) → IsWhole plan → Job plan state w (occurrence.Run action) → action < length plan.actions
run_there plan state w action whole job =
    lead_in plan (slice_get plan.lists job.entry.list) (at_or_none (λ x. All (Leads plan) (occurrences x.body)) plan.lists job.entry.list whole.occurrences_lead)
    job.number action job.found

-- ---- takes

pub no_take_of : (why : Illegal) (old : BoardState) (i h : ℕ) (made : Entry) → IsOfInput old.plan i made → IsIllegal why old (Event.Take i h made)
    → IsNoTake why old i h made.message made.tag
no_take_of illegal.NotAStep old i h made of none = λ node message tag new outs (lost, takes, is).
    none new outs (subst (λ x. Step old.plan old.state (Event.Take i h x) new outs)
    (one_taken old.plan i node made takes.made of message tag) (lost, takes, is))
no_take_of illegal.NoMemory old i h made of none = tt
no_take_of illegal.TotalsFull old i h made of some = (made, refl, refl, some)

pub no_hand : (old : BoardState) (i h : ℕ) (message : Said) (tag : ℕ) → (IsHand old.plan i h → ⊥) → IsNoTake illegal.NotAStep old i h message tag
no_hand old i h message tag none = λ node m t new outs (lost, takes, is). none takes.there

pub input_made : (plan : Plan) (i list due tag : ℕ) (message : Said) (node : Entry) → list ≡ (input_at plan i).list → IsDue plan list message due
    → node ≡ record { message = message; list = list; input = i; due = due; tag = tag } → IsOfInput plan i node
input_made plan i list due tag message node l d is =
    subst (IsOfInput plan i) (sym is) (record { input_is = refl; list = l; due = subst (λ k. IsDue plan k message due) l d })

pub list_there : (plan : Plan) (i list : ℕ) → IsWhole plan → i < length plan.inputs → list ≡ (input_at plan i).list → list < length plan.lists
list_there plan i list whole there is =
    let low = whole.input_lists i (input_at plan i) there in
    let more = whole.rulesets_before in
    omega (arith, is, low, more)
