-- No worker's job fails more often than it may.
use Rattle.std.proofs.Common.{◌≡◌, ℕ, ◌≤◌, ◌⊎◌, inl, inr, List, [], ◌∷◌, ◌++◌, refl, sym, subst, ap, ◌∙◌, arith, get_or, set, Option, Some, None}
use Rattle.std.specs.Prelude.{◌≢◌, slice_get}
use Rattle.std.proofs.lemmas.Bool.{cases_eq}
use Rattle.sy_chain.specs.Entries.{Entry}
use Rattle.sy_rules.specs.declared.lists.occurrence.Occurrence.{Occurrence}
use Rattle.sy_rules.specs.declared.lists.occurrence.Occurrence.TheVariants as occurrence
use Rattle.sy_rules.specs.PlanValue.{Plan}
use Rattle.sy_rules.specs.Whole.{queue_for}
use Rattle.sy_rules.specs.lists.Sets.{IsLowest}
use Rattle.sy_rules.proofs.lemmas.lists.Lowest.{one_lowest}
use Rattle.sy_board.specs.relay.Cells.{Cell, RelayState, at, failures_at, set_cell, set_failures}
use Rattle.sy_board.specs.relay.Moves.{IsLeftAlone, worker_of}
use Rattle.sy_board.specs.relay.Patience.{IsPatient}
use Rattle.sy_board.specs.relay.Plans.{occurrences_at, retry_at}
use Rattle.sy_board.specs.relay.Steps.{Event, Fails, Job, MayTry, Out, Step, advanced, one_more}
use Rattle.sy_board.proofs.relay.Lengths.{alone_step}
use Rattle.sy_board.proofs.relay.SetCells.{if_elim, set_elim}

-- ---- a worker has one job

same_entry : (e f : Entry) (es fs : List Entry) → e ∷ es ≡ f ∷ fs → e ≡ f
same_entry e f es fs h = cc

same_run : (a b : ℕ) → occurrence.Run a ≡ occurrence.Run b → a ≡ b
same_run a b h = cc

same_occurrence : (a b : Occurrence) → Some a ≡ Some b → a ≡ b
same_occurrence a b h = cc

pub one_job : (plan : Plan) (state : RelayState) (worker : ℕ) (a b : Occurrence) → Job plan state worker a → Job plan state worker b → a ≡ b
one_job plan state worker a b one other =
    let entry : one.entry ≡ other.entry = same_entry one.entry other.entry one.others other.others (sym one.held ∙ other.held) in
    let number : one.number ≡ other.number = one_lowest one.entry.due one.number other.number one.left other.left one.first
    (subst (λ (e : Entry). IsLowest e.due other.number other.left) (sym entry) other.first) in
    let found : slice_get (occurrences_at plan one.entry.list) one.number ≡ Some b = rw (entry, number) other.found in
    same_occurrence a b (sym one.found ∙ found)

pub one_run : (plan : Plan) (state : RelayState) (worker a b : ℕ) → Job plan state worker (occurrence.Run a) → Job plan state worker (occurrence.Run b) → a ≡ b
one_run plan state worker a b one other = same_run a b (one_job plan state worker (occurrence.Run a) (occurrence.Run b) one other)

-- ---- one worker of a state

record IsPatientAt (plan : Plan) (state : RelayState) (worker : ℕ) : Type 0 where
  idle : at state (Cell.Worker worker) ≡ [] → failures_at state worker ≡ 0
  runs : (action retry : ℕ) → Job plan state worker (occurrence.Run action) → retry_at plan action ≡ Some retry → failures_at state worker ≤ retry

alone : (plan : Plan) (old new : RelayState) (v : ℕ) → IsPatient plan old → IsLeftAlone v old new → IsPatientAt plan new v
alone plan old new v patient left = record {
  idle = λ none. left.failures ∙ patient.idle v (sym left.entries ∙ none);
  runs = λ action retry job is. rw left.failures (patient.runs v action retry (record {
    there = job.there;
    entry = job.entry;
    others = job.others;
    held = sym left.entries ∙ job.held;
    number = job.number;
    left = job.left;
    first = job.first;
    found = job.found;
  }) is);
}

none_failed : (plan : Plan) (new : RelayState) (v : ℕ) → failures_at new v ≡ 0 → IsPatientAt plan new v
none_failed plan new v none = record { idle = λ idle. none; runs = λ action retry job is. omega (arith, none) }

nobody : (v : ℕ) → None ≡ Some v → ⊥
nobody v h = cc

same_worker : (w v : ℕ) → Some w ≡ Some v → w ≡ v
same_worker w v h = cc

its_worker : (named : Option ℕ) (v : ℕ) → (named ≡ Some v) ⊎ (named ≢ Some v)
its_worker None v = inr (nobody v)
its_worker (Some w) v = elim (cases_eq w v) [ inl same ↦ inl (ap (λ (x : ℕ). Some x) same) | inr apart ↦ inr (λ h. apart (same_worker w v h)) ]

-- a number that is set to 0 there
zeroed : (xs : List ℕ) (k : ℕ) → get_or (set xs k 0) k 0 ≡ 0
zeroed [] k = refl
zeroed (x ∷ xs) ℕ.zero = refl
zeroed (x ∷ xs) (ℕ.suc k) = zeroed xs k

some_same : (r s : ℕ) → Some r ≡ Some s → r ≡ s
some_same r s h = cc

-- a failure more, where the job may be tried again
still_patient : (limit : Option ℕ) (retry failures : ℕ) → MayTry limit failures → limit ≡ Some retry → one_more limit failures ≤ retry
still_patient None retry failures may is = cc
still_patient (Some r) retry failures may is = let same : r ≡ retry = some_same r retry is in omega (arith, may, same)

failed : (plan : Plan) (old : RelayState) (w a : ℕ) (e : Entry) (new : RelayState) → IsPatient plan old → Fails plan old w a e new → IsPatientAt plan new w
failed plan old w a e new patient fails = subst (λ (s : RelayState). IsPatientAt plan s w) (sym fails.after) (record {
  idle = λ none. absurd (not_idle fails.job.entry fails.job.others fails.job.held none);
  runs = λ action retry job is. set_elim (λ (n : ℕ). n ≤ retry) old.failures w w (one_more (retry_at plan a) (failures_at old w)) 0
      (λ same. still_patient (retry_at plan a) retry (failures_at old w) fails.again (ap (retry_at plan) (one_run plan old w a action fails.job (as_before job)) ∙ is))
      (patient.runs w action retry (as_before job) is);
})
  where
    not_idle : (first : Entry) (others : List Entry) → at old (Cell.Worker w) ≡ first ∷ others → at old (Cell.Worker w) ≡ [] → ⊥
    not_idle first others held none = cc

    as_before : {action : ℕ} → Job plan (set_failures old w (one_more (retry_at plan a) (failures_at old w))) w (occurrence.Run action) → Job plan old w (occurrence.Run action)
    as_before job = record {
      there = job.there;
      entry = job.entry;
      others = job.others;
      held = job.held;
      number = job.number;
      left = job.left;
      first = job.first;
      found = job.found;
    }

-- ---- the worker of a step

advances : (plan : Plan) (old : RelayState) (w : ℕ) (o : Occurrence) (job : Job plan old w o) → IsPatientAt plan (advanced plan old w o job) w
advances plan old w o job = none_failed plan (advanced plan old w o job) w (zeroed old.failures w)

patient_at : (plan : Plan) (old : RelayState) (event : Event) (new : RelayState) (outs : List Out) → IsPatient plan old
    → Step plan old event new outs → (v : ℕ) → worker_of event ≡ Some v → IsPatientAt plan new v
patient_at plan old (Event.Take i h node) new outs patient step v its = absurd (nobody v its)
patient_at plan old (Event.Enter i h) new outs patient step v its = absurd (nobody v its)
patient_at plan old (Event.Expire i h) new outs patient step v its = absurd (nobody v its)
patient_at plan old (Event.Grab w) new outs patient (lost, grabs, is) v its =
    subst (IsPatientAt plan new) (same_worker w v its)
    (none_failed plan new w (ap (λ (s : RelayState). failures_at s w) grabs.after ∙ patient.idle w grabs.idle))
patient_at plan old (Event.Done w) new outs patient (a, e, does, is) v its =
    subst (IsPatientAt plan new) (same_worker w v its) (subst (λ (s : RelayState). IsPatientAt plan s w) (sym does.after) (advances plan old w _ does.job))
patient_at plan old (Event.Fail w took) new outs patient (a, e, fails, is) v its =
    subst (IsPatientAt plan new) (same_worker w v its) (failed plan old w a e new patient fails)
patient_at plan old (Event.GiveUp w took) new outs patient (a, e, gives, is) v its =
    subst (IsPatientAt plan new) (same_worker w v its) (subst (λ (s : RelayState). IsPatientAt plan s w) (sym gives.after) (advances plan old w _ gives.job))
patient_at plan old (Event.Post w) new outs patient (l, node, lost, posts, is) v its =
    subst (IsPatientAt plan new) (same_worker w v its) (subst (λ (s : RelayState). IsPatientAt plan s w) (sym posts.after)
    (if_elim (λ (s : RelayState). IsPatientAt plan s w) lost (advanced plan old w _ posts.job)
    (set_cell (advanced plan old w _ posts.job) (Cell.Queue (queue_for plan l)) (at old (Cell.Queue (queue_for plan l)) ++ node ∷ []))
    (λ t. advances plan old w _ posts.job) (λ t. none_failed plan _ w (zeroed old.failures w))))
patient_at plan old (Event.PostLost w no_memory) new outs patient (l, e, loses, is) v its =
    subst (IsPatientAt plan new) (same_worker w v its) (subst (λ (s : RelayState). IsPatientAt plan s w) (sym loses.after) (advances plan old w _ loses.job))

-- one of a step is the worker of it, or is left alone
each_at : (plan : Plan) (old : RelayState) (event : Event) (new : RelayState) (outs : List Out) → IsPatient plan old
    → Step plan old event new outs → (v : ℕ) → IsPatientAt plan new v
each_at plan old event new outs patient step v =
    elim (its_worker (worker_of event) v) [
      | inl its ↦ patient_at plan old event new outs patient step v its
      | inr apart ↦ alone plan old new v patient (alone_step plan old event new outs step v apart)
    ]

pub patient_step : (plan : Plan) (old : RelayState) (event : Event) (new : RelayState) (outs : List Out) → IsPatient plan old
    → Step plan old event new outs → IsPatient plan new
patient_step plan old event new outs patient step = record {
  idle = λ worker. (each_at plan old event new outs patient step worker).idle;
  runs = λ worker. (each_at plan old event new outs patient step worker).runs;
}
