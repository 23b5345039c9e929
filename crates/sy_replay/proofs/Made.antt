-- What a board's answers mean for an event: the step is made.
use Rattle.std.proofs.Common.{◌≡◌, ℕ, ◌<◌, ◌≤◌, Bool, true, false, if◌then◌else◌, List, [], ◌∷◌, ◌++◌, length, map, min, inl, inr, refl, sym, ap, subst, arith, ◌∙◌, append-nil, append_assoc, get_or}
use Rattle.std.specs.Prelude.{slice_set, Result, Ok, Err, OnOk, OnErr, IfErr}
use Rattle.std.proofs.lemmas.List.{get_or-map, map-append, map-set, set-get_or}
use Rattle.std.proofs.lemmas.Bool.Decides.{nat_tests}
use Rattle.sy_wire.specs.Messages.{Said}
use Rattle.sy_chain.specs.Entries.{Entry}
use Rattle.sy_actions.specs.Devices.{Refused}
use Rattle.sy_marks.specs.Marks.{front_where, is_lost}
use Rattle.sy_rules.specs.Whole.{IsWhole}
use Rattle.sy_board.specs.relay.Cells.{Cell, at}
use Rattle.sy_board.specs.relay.Plans.{marks_at, parameters_at, queue_of_worker}
use Rattle.sy_rules.specs.declared.lists.occurrence.Occurrence.TheVariants as occurrence
use Rattle.sy_board.specs.declared.relay.answers.Entry.TheVariants as entry
use Rattle.sy_board.specs.declared.relay.answers.Taken.TheVariants as taken
use Rattle.sy_board.specs.declared.relay.answers.Posted.TheVariants as posted
use Rattle.sy_board.specs.declared.relay.answers.PostCause.{PostCause}
use Rattle.sy_board.specs.declared.relay.answers.Retry.TheVariants as retry
use Rattle.sy_board.specs.relay.Boards.{BoardState, EnterIs, ExpireIs, FailIs, GrabIs, PostIs, PostLostIs, SettleIs, TakeIs, is_no_memory, stepped}
use Rattle.sy_board.specs.relay.Steps.{Cause, Event, Grabs, Out}
use Rattle.sy_board.proofs.relay.Outcomes.{jobs_same}
use Rattle.sy_site.specs.machine.States as states
use Rattle.sy_replay.specs.declared.event.Loss.{Loss}
use Rattle.sy_replay.specs.declared.event.Cause.TheVariants as lost_by_cause
use Rattle.sy_replay.specs.declared.event.Illegal.TheVariants as illegal
use Rattle.sy_replay.specs.Events.{loss_of, losses_of}
use Rattle.sy_replay.specs.internal.Events.{Goes, IsIllegal}
use Rattle.sy_replay.specs.internal.Jobs.{Answer, Answers, Comes, IsPostJob, IsRunJob, event_of, is_taken, losses_by, outs_of, with_tag}
use Rattle.sy_replay.specs.Parts.{tags_at}
use Rattle.sy_replay.specs.internal.Parts.{Makes, MakesInside, Tags, items_of, lost_by, part, passed_by}
use Rattle.sy_replay.proofs.Refused.{nothing_grabbed, one_list}

abbrev the_loss : ℕ → ℕ → ℕ → Cause → states.Loss
the_loss copy relay list cause = record { copy = copy; relay = relay; list = list; cause = cause }

-- one more loss
pub one_more : (xs ys : List Loss) (l : Loss) → ys ≡ xs ++ l ∷ [] → losses_of ys ≡ losses_of xs ++ loss_of l ∷ []
one_more xs ys l is = ap losses_of is ∙ map-append loss_of xs (l ∷ [])

-- a step that lets out one loss, and one that lets out nothing
pub losing : (relay : ℕ) (old new : BoardState) (event : Event) (cause : Cause) (e : Entry) (xs ys : List Loss) (l : Loss)
    → Goes old event new (Out.Lost cause e ∷ []) → ys ≡ xs ++ l ∷ [] → loss_of l ≡ record { copy = e.tag; relay = relay; list = e.list; cause = cause }
    → MakesInside relay old (losses_of xs) event new (losses_of ys)
losing relay old new event cause e xs ys l goes is loss = λ passed. record {
  outs = Out.Lost cause e ∷ [];
  goes = goes;
  passed = refl;
  losses = one_more xs ys l is ∙ ap (λ x. losses_of xs ++ x ∷ []) loss;
}

pub quiet : (relay : ℕ) (old new : BoardState) (event : Event) (losses : List states.Loss) → Goes old event new [] → MakesInside relay old losses event new losses
quiet relay old new event losses goes = λ passed. record { outs = []; goes = goes; passed = refl; losses = sym (append-nil losses) }

pub entered : (old new : BoardState) (i h : ℕ) → EnterIs entry.Entered old i h new → Goes old (Event.Enter i h) new []
entered old new i h (node, enters, is) = ((node, enters, refl), is)

pub taken_in : (old new : BoardState) (i h : ℕ) (node : Entry) → TakeIs taken.InHand old i h node new → Goes old (Event.Take i h node) new []
taken_in old new i h node (takes, is) = ((false, takes, refl), is)

pub taken_lost : (old new : BoardState) (i h : ℕ) (node lost : Entry) → TakeIs (taken.Discarded lost) old i h node new
    → Goes old (Event.Take i h node) new (Out.Lost Cause.Take node ∷ [])
taken_lost old new i h node lost (same, takes, is) = ((true, takes, refl), is)

pub expired : (old new : BoardState) (i h : ℕ) (node : Entry) → ExpireIs node old i h new → Goes old (Event.Expire i h) new (Out.Lost Cause.Expire node ∷ [])
expired old new i h node (expires, is) = ((node, expires, refl), is)

-- ---- grabs

pub grabbed : (relay : ℕ) (old new : BoardState) (w : ℕ) (lost : List Entry) (before after : List states.Loss) → Grabs old.plan old.state w lost new.state
    → new ≡ stepped old (Event.Grab w) new.state (map (Out.Lost Cause.Grab) lost)
    → after ≡ before ++ lost_by relay (map (Out.Lost Cause.Grab) lost) → MakesInside relay old before (Event.Grab w) new after
grabbed relay old new w lost before after grabs same is = λ passed. record {
  outs = map (Out.Lost Cause.Grab) lost;
  goes = ((lost, grabs, refl), same);
  passed = sym (nothing_passed lost passed);
  losses = is;
} where
  nothing_passed : (es : List Entry) (passed : List (List ℕ)) → passed_by (map (Out.Lost Cause.Grab) es) passed ≡ passed
  nothing_passed [] passed = refl
  nothing_passed (e ∷ es) passed = nothing_passed es passed

-- no more than a batch are lost of it
pub few_of : (test : Entry → ℕ → Bool) (n : ℕ) (es : List Entry) → length (front_where test n es) ≤ n
few_of test ℕ.zero es = omega arith
few_of test (ℕ.suc n) [] = omega arith
few_of test (ℕ.suc n) (e ∷ es) = go (test e (length es)) (few_of test n es)
  where
    go : (b : Bool) → length (front_where test n es) ≤ n → length (if b then e ∷ front_where test n es else front_where test n es) ≤ ℕ.suc n
    go true l = omega (arith, l)
    go false l = omega (arith, l)

pub few_lost : (old new : BoardState) (w count : ℕ) (lost : List Entry) → GrabIs count lost old w new → (batch : ℕ)
    → (parameters_at old.plan (queue_of_worker old.plan w)).batch ≤ batch → length lost ≤ batch
few_lost old new w count lost (inl (same, waits, none, is)) batch most = rw is (omega arith)
few_lost old new w count lost (inr (grabs, counted, is)) batch most =
    let few = few_of (is_lost (marks_at old.plan (queue_of_worker old.plan w))) (parameters_at old.plan (queue_of_worker old.plan w)).batch (at old.state (Cell.Queue (queue_of_worker old.plan w))) in
    let l : length lost ≤ (parameters_at old.plan (queue_of_worker old.plan w)).batch = rw grabs.lost_are few in
    omega (arith, l, most)

some_of : (batch waits : ℕ) → 1 ≤ batch → 0 < waits → min batch waits ≡ 0 → ⊥
some_of batch waits b n e = grind (arith, nat_tests)

-- nothing was grabbed only where nothing waits
pub grab_none : (old new : BoardState) (w count : ℕ) (lost : List Entry) → IsWhole old.plan → w < length old.plan.workers → GrabIs count lost old w new → count ≡ 0
    → (new ≡ old) × IsIllegal illegal.NotAStep old (Event.Grab w)
grab_none old new w count lost whole there (inl (same, waits, none, is)) zero = (same, nothing_grabbed old w waits)
grab_none old new w count lost whole there (inr (grabs, counted, is)) zero =
    let queue : queue_of_worker old.plan w < length old.plan.queues = whole.worker_queues w 0 there in
    let least = (whole.queue_ranges (queue_of_worker old.plan w) _ queue).batch_least in
    absurd (some_of _ _ least grabs.some (sym counted ∙ zero))

pub grab_some : (old new : BoardState) (w count : ℕ) (lost : List Entry) → GrabIs count lost old w new → (count ≡ 0 → ⊥)
    → Grabs old.plan old.state w lost new.state × (new ≡ stepped old (Event.Grab w) new.state (map (Out.Lost Cause.Grab) lost))
grab_some old new w count lost (inl (same, waits, none, is)) some = absurd (some none)
grab_some old new w count lost (inr (grabs, counted, is)) some = (grabs, is)

-- the entries that a grab lost, one after the other
pub one_noted : (relay : ℕ) (node : Entry) (rest lost : List Entry) (xs ys : List Loss) (l : Loss) (all : List states.Loss) → ys ≡ xs ++ l ∷ []
    → loss_of l ≡ record { copy = node.tag; relay = relay; list = node.list; cause = Cause.Grab } → lost ≡ node ∷ rest
    → losses_of xs ++ lost_by relay (map (Out.Lost Cause.Grab) lost) ≡ all → losses_of ys ++ lost_by relay (map (Out.Lost Cause.Grab) rest) ≡ all
one_noted relay node rest lost xs ys l all are loss is so_far =
    ap (λ z. z ++ lost_by relay (map (Out.Lost Cause.Grab) rest)) (one_more xs ys l are)
    ∙ append_assoc (losses_of xs) (loss_of l ∷ []) (lost_by relay (map (Out.Lost Cause.Grab) rest))
    ∙ ap (λ x. losses_of xs ++ x ∷ lost_by relay (map (Out.Lost Cause.Grab) rest)) loss
    ∙ ap (λ z. losses_of xs ++ lost_by relay (map (Out.Lost Cause.Grab) z)) (sym is) ∙ so_far

pub all_noted : (relay : ℕ) (lost : List Entry) (xs : List Loss) (all : List states.Loss) → lost ≡ []
    → losses_of xs ++ lost_by relay (map (Out.Lost Cause.Grab) lost) ≡ all → losses_of xs ≡ all
all_noted relay lost xs all is so_far =
    sym (append-nil (losses_of xs)) ∙ ap (λ z. losses_of xs ++ lost_by relay (map (Out.Lost Cause.Grab) z)) (sym is) ∙ so_far

-- ---- runs

pub settled : (old new : BoardState) (w action list tag : ℕ) (message : Said) → IsRunJob old w action list message tag
    → SettleIs old w (record { device = action; message = message }) new → Answers Answer.Done old w action list tag new
settled old new w action list tag message job (of, settles, is) = (
  of.run.entry,
  ap (λ (e : Entry). e.tag) (jobs_same old.plan old.state w (occurrence.Run action) (occurrence.Run action) of.run job.job).1 ∙ job.its_tag,
  ap (λ (e : Entry). e.list) (jobs_same old.plan old.state w (occurrence.Run action) (occurrence.Run action) of.run job.job).1 ∙ job.its_list,
  λ took. ((action, of.run.entry, settles, refl), is),
)

pub as_reported : (failure : Refused) (action : ℕ) → failure.device ≡ action → failure ≡ record failure { device = action }
as_reported failure action d = ap (λ x. record failure { device = x }) d

pub tried : (old new : BoardState) (w action list tag : ℕ) (message : Said) (failure : Refused) → IsRunJob old w action list message tag → failure.device ≡ action
    → FailIs retry.Again old w failure new → Answers Answer.Fail old w action list tag new
tried old new w action list tag message failure job d is = go (subst (λ x. FailIs retry.Again old w x new) (as_reported failure action d) is)
  where
    go : FailIs retry.Again old w (record failure { device = action }) new → Answers Answer.Fail old w action list tag new
    go (of, fails, same) = (
      of.of.run.entry,
      ap (λ (e : Entry). e.tag) (jobs_same old.plan old.state w (occurrence.Run action) (occurrence.Run action) of.of.run job.job).1 ∙ job.its_tag,
      ap (λ (e : Entry). e.list) (jobs_same old.plan old.state w (occurrence.Run action) (occurrence.Run action) of.of.run job.job).1 ∙ job.its_list,
      λ took. ((action, of.of.run.entry, fails, refl), same took),
    )

pub given_up : (old new : BoardState) (w action list tag : ℕ) (message : Said) (failure : Refused) → IsRunJob old w action list message tag → failure.device ≡ action
    → FailIs retry.GaveUp old w failure new → Answers Answer.GiveUp old w action list tag new
given_up old new w action list tag message failure job d is = go (subst (λ x. FailIs retry.GaveUp old w x new) (as_reported failure action d) is)
  where
    go : FailIs retry.GaveUp old w (record failure { device = action }) new → Answers Answer.GiveUp old w action list tag new
    go (of, gives, same) = (
      of.of.run.entry,
      ap (λ (e : Entry). e.tag) (jobs_same old.plan old.state w (occurrence.Run action) (occurrence.Run action) of.of.run job.job).1 ∙ job.its_tag,
      ap (λ (e : Entry). e.list) (jobs_same old.plan old.state w (occurrence.Run action) (occurrence.Run action) of.of.run job.job).1 ∙ job.its_list,
      λ took. ((action, of.of.run.entry, gives, refl), same took),
    )

-- ---- posts

pub posted_on : (old new : BoardState) (w : ℕ) (node : Entry) → PostIs posted.Done old w node new → Goes old (Event.Post w) new []
posted_on old new w node (list, posts, is) = ((list, node, false, posts, refl), is)

-- the loss of a post
loss_is : {copy tag list followed l to : ℕ} (relay : ℕ) (by : ℕ → Cause) → copy ≡ tag → list ≡ followed → l ≡ to
    → record { copy = copy; relay = relay; list = list; cause = by l } ≡ the_loss tag relay followed (by to)
loss_is relay by tag followed to = λ i. record { copy = tag i; relay = relay; list = followed i; cause = by (to i) }

pub post_discarded : (relay : ℕ) (old new : BoardState) (w list followed input tag : ℕ) (message : Said) (node lost : Entry) (xs ys : List Loss) → IsPostJob old w list followed input message tag
    → PostIs (posted.Discarded lost) old w node new → ys ≡ xs ++ record { copy = tag; relay = relay; list = followed; cause = lost_by_cause.Post list } ∷ []
    → MakesInside relay old (losses_of xs) (Event.Post w) new (losses_of ys)
post_discarded relay old new w list followed input tag message node lost xs ys job (same, l, posts, is) are =
    let entry = (jobs_same old.plan old.state w (occurrence.Post l) (occurrence.Post list) posts.job job.job).1 in
    let tag_is : posts.job.entry.tag ≡ tag = ap (λ (e : Entry). e.tag) entry ∙ job.its_tag in
    let followed_is : posts.job.entry.list ≡ followed = ap (λ (e : Entry). e.list) entry ∙ job.its_list in
    let list_is : l ≡ list = one_list old.plan old.state w l list posts.job job.job in
    losing relay old new (Event.Post w) (Cause.Post l) posts.job.entry xs ys _ ((l, node, true, posts, refl), is) are
    (sym (loss_is relay Cause.Post tag_is followed_is list_is))

pub post_gone : (relay : ℕ) (old new : BoardState) (w list followed input tag : ℕ) (message : Said) (why : PostCause) (xs ys : List Loss) → IsPostJob old w list followed input message tag
    → PostLostIs why old w new → ys ≡ xs ++ record { copy = tag; relay = relay; list = followed; cause = lost_by_cause.PostLost list } ∷ []
    → MakesInside relay old (losses_of xs) (Event.PostLost w (is_no_memory why)) new (losses_of ys)
post_gone relay old new w list followed input tag message why xs ys job (l, e, loses, is) are =
    let entry = (jobs_same old.plan old.state w (occurrence.Post l) (occurrence.Post list) loses.job job.job).1 in
    let tag_is : e.tag ≡ tag = ap (λ (x : Entry). x.tag) (sym loses.its ∙ entry) ∙ job.its_tag in
    let followed_is : e.list ≡ followed = ap (λ (x : Entry). x.list) (sym loses.its ∙ entry) ∙ job.its_list in
    let list_is : l ≡ list = one_list old.plan old.state w l list loses.job job.job in
    losing relay old new (Event.PostLost w (is_no_memory why)) (Cause.PostLost l) e xs ys _ ((l, e, loses, refl), is) are
    (sym (loss_is relay Cause.PostLost tag_is followed_is list_is))

-- ---- what a device took

pub answered_into : (answer : Answer) (took : Bool) (old new : BoardState) (w action list tag : ℕ) (tags after : List ℕ) → Answers answer old w action list tag new
    → after ≡ with_tag (is_taken answer took) tags tag → Comes answer took old tags w action list tag new after
answered_into answer took old new w action list tag tags after (e, its_tag, its_list, goes) are = (e, its_tag, its_list, goes took, are)

pub with_it : (took : Bool) (tags : List ℕ) (tag : ℕ) → took ≡ true → tags ++ tag ∷ [] ≡ with_tag took tags tag
with_it took tags tag is = ap (λ b. with_tag b tags tag) (sym is)

pub without_it : (took : Bool) (tags : List ℕ) (tag : ℕ) → took ≡ false → tags ≡ with_tag took tags tag
without_it took tags tag is = ap (λ b. with_tag b tags tag) (sym is)

-- The step is made with what its device took: the list of the action is longer by the tag, or not.
passed_one : (answer : Answer) (took : Bool) (passed : List (List ℕ)) (action : ℕ) (e : Entry)
    → slice_set passed action (with_tag (is_taken answer took) (tags_at passed action) e.tag) ≡ passed_by (outs_of answer action took e) passed
passed_one Answer.Done took passed action e = refl
passed_one Answer.Fail true passed action e = refl
passed_one Answer.Fail false passed action e = set-get_or passed action []
passed_one Answer.GiveUp true passed action e = refl
passed_one Answer.GiveUp false passed action e = set-get_or passed action []

lost_one : (answer : Answer) (relay action : ℕ) (took : Bool) (e : Entry) → lost_by relay (outs_of answer action took e) ≡ losses_by answer relay action e.list e.tag
lost_one Answer.Done relay action took e = refl
lost_one Answer.Fail relay action true e = refl
lost_one Answer.Fail relay action false e = refl
lost_one Answer.GiveUp relay action true e = refl
lost_one Answer.GiveUp relay action false e = refl

pub comes_made : (answer : Answer) (relay : ℕ) (took : Bool) (old new : BoardState) (w action list tag : ℕ) (passed passed_after : List (List ℕ)) (after : List ℕ)
    (before now : List states.Loss) → Comes answer took old (tags_at passed action) w action list tag new after
    → passed_after ≡ slice_set passed action after → now ≡ before ++ losses_by answer relay action list tag
    → Makes relay (part old passed) before (event_of answer w took) (part new passed_after) now
comes_made answer relay took old new w action list tag passed passed_after after before now (e, its_tag, its_list, goes, are) is lost = record {
  outs = outs_of answer action took e;
  goes = goes;
  passed = is ∙ ap (slice_set passed action) (are ∙ ap (with_tag (is_taken answer took) (tags_at passed action)) (sym its_tag)) ∙ passed_one answer took passed action e;
  losses = lost ∙ ap (λ t. before ++ losses_by answer relay action list t) (sym its_tag)
      ∙ ap (λ l. before ++ losses_by answer relay action l e.tag) (sym its_list) ∙ ap (λ z. before ++ z) (sym (lost_one answer relay action took e));
}

-- ---- an action's list among those of a relay

pub item_at : (xs : List Tags) (k : ℕ) (x : Tags) → k < length xs → x ≡ get_or xs k x → tags_at (items_of xs) k ≡ x.items
item_at xs k x l e = get_or-map (λ (q : Tags). q.items) xs k x [] l ∙ ap (λ (q : Tags). q.items) (sym e)

pub items_set : (xs : List Tags) (k : ℕ) (v : Tags) → items_of (slice_set xs k v) ≡ slice_set (items_of xs) k v.items
items_set xs k v = map-set (λ (q : Tags). q.items) xs k v

pub items_stay : (xs : List Tags) (k : ℕ) (x v : Tags) → k < length xs → x ≡ get_or xs k x → v.items ≡ x.items → items_of (slice_set xs k v) ≡ items_of xs
items_stay xs k x v l e same =
    items_set xs k v ∙ ap (slice_set (items_of xs) k) (same ∙ sym (item_at xs k x l e)) ∙ set-get_or (items_of xs) k []

pub read_comes : (answer : Answer) (took : Bool) (old new : BoardState) (w action list tag : ℕ) (xs : List Tags) (x : Tags) (after : List ℕ) → action < length xs
    → x ≡ get_or xs action x → Comes answer took old x.items w action list tag new after → Comes answer took old (tags_at (items_of xs) action) w action list tag new after
read_comes answer took old new w action list tag xs x after l e comes = subst (λ z. Comes answer took old z w action list tag new after) (sym (item_at xs action x l e)) comes

pub on_ok : {T E A B : Type 0} (r : Result T E) → (A → B) → OnOk r A → OnOk r B
on_ok (Ok x) f a = f a
on_ok (Err e) f a = tt

pub on_err : {T E A B : Type 0} (r : Result T E) → (A → B) → OnErr r A → OnErr r B
on_err (Ok x) f a = tt
on_err (Err e) f a = f a

pub if_err : {T E : Type 0} (P Q : E → Type 0) (r : Result T E) → ((e : E) → P e → Q e) → IfErr r P → IfErr r Q
if_err P Q (Ok x) f a = tt
if_err P Q (Err e) f a = f e a

pub given_up_made : (relay : ℕ) (took : Bool) (old new : BoardState) (w action list tag : ℕ) (xs : List Tags) (x v : Tags) (losses now : List Loss) → action < length xs
    → x ≡ get_or xs action x → Comes Answer.GiveUp took old x.items w action list tag new v.items
    → now ≡ losses ++ record { copy = tag; relay = relay; list = list; cause = lost_by_cause.GiveUp action } ∷ []
    → Makes relay (part old (items_of xs)) (losses_of losses) (Event.GiveUp w took) (part new (items_of (slice_set xs action v))) (losses_of now)
given_up_made relay took old new w action list tag xs x v losses now l e comes are =
    comes_made Answer.GiveUp relay took old new w action list tag _ _ v.items (losses_of losses) (losses_of now)
    (read_comes Answer.GiveUp took old new w action list tag xs x v.items l e comes) (items_set xs action v) (one_more losses now _ are)
