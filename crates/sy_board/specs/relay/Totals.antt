-- What a relay counts over its steps, what is counted in what it holds, and the laws that join the two.
use Rattle.std.specs.Prelude.{◌≡◌, ℕ, ◌+◌, ◌<◌, ◌==◌, ◌&&◌, not, Bool, true, false, if◌then◌else◌, List, [], ◌∷◌, length, min, replicate, slice_index_or, slice_set}
use Rattle.std.specs.Int.{bit_at}
use Rattle.std.specs.List.{list_any}
use Rattle.sy_wire.specs.declared.class.Class.{Class}
use Rattle.sy_chain.specs.Entries.{Entry}
use Rattle.sy_rules.specs.declared.lists.occurrence.Occurrence.{Occurrence}
use Rattle.sy_rules.specs.declared.lists.occurrence.Occurrence.TheVariants as occurrence
use Rattle.sy_rules.specs.PlanValue.{Plan}
use Rattle.sy_board.specs.relay.Cells.{Cell, RelayState, at, waiting}
use Rattle.sy_board.specs.relay.Plans.{occurrences_at, parameters_at, queue_of_worker}
use Rattle.sy_board.specs.relay.Spares.{is_spare_own, loses_spare}
use Rattle.sy_board.specs.relay.Steps.{Cause, Event, Out}

-- ---- counted in what a relay holds

abbrev pub total : {A : Type 0} → (A → ℕ) → List A → ℕ
total f [] = 0
total f (x ∷ xs) = f x + total f xs

abbrev pub in_hands : RelayState → ℕ
in_hands part = total length part.hands

abbrev pub in_queues : RelayState → ℕ
in_queues part = total length part.queues

abbrev pub is_post : Occurrence → Bool
is_post (occurrence.Run action) = false
is_post (occurrence.Post list) = true

abbrev pub is_run_of : ℕ → Occurrence → Bool
is_run_of action (occurrence.Run other) = other == action
is_run_of action (occurrence.Post list) = false

-- how many of these occurrences, which are numbered from k on, are due and of this kind
abbrev pub due_of : (Occurrence → Bool) → List Occurrence → ℕ → ℕ → ℕ
due_of kind [] due k = 0
due_of kind (x ∷ later) due k = (if kind x then bit_at due k else 0) + due_of kind later due (ℕ.suc k)

-- the occurrences of a kind that are due for entries
abbrev pub due_for : Plan → (Occurrence → Bool) → List Entry → ℕ
due_for plan kind entries = total (λ e. due_of kind (occurrences_at plan e.list) e.due 0) entries

-- those that workers have left
abbrev pub left_of : Plan → (Occurrence → Bool) → RelayState → ℕ
left_of plan kind part = total (due_for plan kind) part.workers

-- ---- counted over the steps

-- of one action: how many runs became due, were done, were given up
pub record Counts : Type 0 where
  pub due : ℕ
  pub done : ℕ
  pub given_up : ℕ

pub record Totals : Type 0 where
  -- messages that came to an input, and those of them that were lost there
  pub taken : ℕ
  pub lost_in : ℕ
  -- entries that posts put into queues, and posts that were lost
  pub posted : ℕ
  pub lost_post : ℕ
  -- entries that workers took from queues, and those of them that were lost
  pub grabbed : ℕ
  pub lost_out : ℕ
  -- posts that became due
  pub posts_due : ℕ
  -- guarded losses, of entries and of occurrences
  pub guarded_lost : ℕ
  pub actions : List Counts

-- pairs of an input and a class whose messages are protected
abbrev pub Pairs : Type 0
Pairs = List (ℕ × Class)

abbrev pub guards : Pairs → ℕ → Class → Bool
guards pairs input class =
    list_any (λ pair. pair.0 == input && (pair.1.facility == class.facility && pair.1.severity == class.severity)) pairs

-- What a relay guards: pairs, and beside them its spare actions by their numbers, at and after which nothing is guarded.
pub record GuardState : Type 0 where
  pub pairs : Pairs
  pub spares : List ℕ

-- nothing is guarded
abbrev pub no_guard : GuardState
no_guard = record { pairs = []; spares = [] }

-- the entry is of a pair, and doesn't follow a spare action's own list
abbrev pub is_guarded : Plan → GuardState → Entry → Bool
is_guarded plan guard e = guards guard.pairs e.input e.message.class && not (is_spare_own plan guard.spares e.list)

-- the loss of such an entry, or of an occurrence of it that isn't spare
abbrev pub is_guarded_loss : Plan → GuardState → Cause → Entry → Bool
is_guarded_loss plan guard cause e = not (loses_spare plan guard.spares cause) && is_guarded plan guard e

abbrev pub guarded_losses : Plan → GuardState → List Out → ℕ
guarded_losses plan guard [] = 0
guarded_losses plan guard (Out.Lost cause e ∷ outs) = (if is_guarded_loss plan guard cause e then 1 else 0) + guarded_losses plan guard outs
guarded_losses plan guard (Out.Passed action e ∷ outs) = guarded_losses plan guard outs

abbrev pub no_counts : Counts
no_counts = record { due = 0; done = 0; given_up = 0 }

abbrev pub counts_at : List Counts → ℕ → Counts
counts_at counts action = slice_index_or counts action no_counts

-- more runs due of each action, the first of which has number k
abbrev pub with_due : (ℕ → ℕ) → ℕ → List Counts → List Counts
with_due more k [] = []
with_due more k (c ∷ counts) = record c { due = c.due + more k } ∷ with_due more (ℕ.suc k) counts

abbrev pub with_done : ℕ → List Counts → List Counts
with_done action counts = slice_set counts action (record (counts_at counts action) { done = (counts_at counts action).done + 1 })

abbrev pub with_given_up : ℕ → List Counts → List Counts
with_given_up action counts =
    slice_set counts action (record (counts_at counts action) { given_up = (counts_at counts action).given_up + 1 })

-- what a Done counts, whose one Out tells the action
abbrev pub counts_done : List Out → List Counts → List Counts
counts_done (Out.Passed action e ∷ outs) counts = with_done action counts
counts_done _ counts = counts

-- what a Give up counts, whose first Out tells the action
abbrev pub counts_given_up : List Out → List Counts → List Counts
counts_given_up (Out.Lost (Cause.GiveUp action) e ∷ outs) counts = with_given_up action counts
counts_given_up _ counts = counts

-- a Post that lets nothing out has put an entry into a queue
abbrev pub posted_by : List Out → ℕ
posted_by [] = 1
posted_by (out ∷ outs) = 0

-- What a step counts, but for guarded losses.
abbrev pub counted_by : Plan → RelayState → Event → RelayState → List Out → Totals → Totals
counted_by plan old (Event.Take input h node) new outs t = record t { taken = t.taken + 1; lost_in = t.lost_in + length outs }
counted_by plan old (Event.Enter input h) new outs t = t
counted_by plan old (Event.Expire input h) new outs t = record t { lost_in = t.lost_in + length outs }
counted_by plan old (Event.Grab w) new outs t = record t {
  grabbed = t.grabbed + min (parameters_at plan (queue_of_worker plan w)).batch (waiting old (queue_of_worker plan w));
  lost_out = t.lost_out + length outs;
  posts_due = t.posts_due + due_for plan is_post (at new (Cell.Worker w));
  actions = with_due (λ action. due_for plan (is_run_of action) (at new (Cell.Worker w))) 0 t.actions;
}
counted_by plan old (Event.Done w) new outs t = record t { actions = counts_done outs t.actions }
counted_by plan old (Event.Fail w took) new outs t = t
counted_by plan old (Event.GiveUp w took) new outs t = record t { actions = counts_given_up outs t.actions }
counted_by plan old (Event.Post w) new outs t = record t { posted = t.posted + posted_by outs; lost_post = t.lost_post + length outs }
counted_by plan old (Event.PostLost w no_memory) new outs t = record t { lost_post = t.lost_post + length outs }

-- what a step counts
abbrev pub counted : Plan → GuardState → RelayState → Event → RelayState → List Out → Totals → Totals
counted plan guard old event new outs t =
    record (counted_by plan old event new outs t) { guarded_lost = t.guarded_lost + guarded_losses plan guard outs }

-- before the first step
abbrev pub nothing_counted : Plan → Totals
nothing_counted plan = record {
  taken = 0;
  lost_in = 0;
  posted = 0;
  lost_post = 0;
  grabbed = 0;
  lost_out = 0;
  posts_due = 0;
  guarded_lost = 0;
  actions = replicate (length plan.actions) no_counts;
}

-- ---- the laws of accounts

pub record Laws (plan : Plan) (part : RelayState) (t : Totals) : Type 0 where
  -- each entry that came was lost at its input, is in a hand or in a queue, or was grabbed
  pub entries : t.taken + t.posted ≡ t.lost_in + in_hands part + in_queues part + t.grabbed
  -- each post that became due is done, lost, or left to a worker
  pub posts : t.posts_due ≡ t.posted + t.lost_post + left_of plan is_post part
  -- and each run of each action is done, given up, or left
  pub actions : length t.actions ≡ length plan.actions
  pub runs : (action : ℕ) → action < length t.actions
      → (counts_at t.actions action).due
      ≡ (counts_at t.actions action).done + (counts_at t.actions action).given_up + left_of plan (is_run_of action) part
