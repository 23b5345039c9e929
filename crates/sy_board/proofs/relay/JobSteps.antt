-- What the methods of a worker's job answer.
use Rattle.std.proofs.Common.{◌≡◌, ℕ, ◌+◌, ◌<◌, ◌≤◌, Bool, false, List, [], ◌∷◌, length, map, refl, sym, subst, ap, ◌∙◌, arith, get_or, set, Option, Some, None}
use Rattle.std.specs.Prelude.{◌≢◌, IfNone, IfSome}
use Rattle.std.specs.Arc.{arc_value}
use Rattle.std.proofs.lemmas.List.{length-map, map-set}
use Rattle.sy_wire.specs.Messages.{Said}
use Rattle.sy_actions.specs.Devices.{Delivered, Refused}
use Rattle.sy_actions.specs.declared.device.DeviceFault.TheVariants as device_fault
use Rattle.sy_chain.specs.Entries.{Entry}
use Rattle.sy_rules.specs.declared.lists.occurrence.Occurrence.{Occurrence}
use Rattle.sy_rules.specs.declared.lists.occurrence.Occurrence.TheVariants as occurrence
use Rattle.sy_rules.specs.PlanValue.{Plan}
use Rattle.sy_board.specs.declared.fault.BoardFault.{BoardFault}
use Rattle.sy_board.specs.declared.fault.BoardFault.TheVariants as fault
use Rattle.sy_board.specs.declared.relay.answers.Retry.TheVariants as retry
use Rattle.sy_board.specs.declared.relay.board.Board.TheInside.{Inside}
use Rattle.sy_board.specs.declared.relay.board.Worker.{Worker}
use Rattle.sy_board.specs.relay.Boards.{Account, BoardState, FailFails, FailIs, Fits, HasNoRun, HasRun, IsFailureOf, IsOf, LeftIs, SettleFails, SettleIs, account_of, guard_of, stepped}
use Rattle.sy_board.specs.relay.Cells.{failures_at}
use Rattle.sy_board.specs.relay.Plans.{retry_at}
use Rattle.sy_board.specs.relay.Steps.{Cause, Event, Fails, GivesUp, Job, MayTry, Out, Settles, advanced, if_so, one_more}
use Rattle.sy_board.specs.relay.Totals.{is_guarded_loss}
use Rattle.sy_board.specs.internal.Counting.{after_done, after_give_up}
use Rattle.sy_board.specs.internal.Jobs.{HasNextRun, IsNext, IsNextOf, RunFails, advanced_entries}
use Rattle.sy_board.specs.internal.Kept.{IsKept, board_inside, state_inside}
use Rattle.sy_board.proofs.relay.JobAccounts.{board_after, done_account, fail_account, give_up_account, kept_after}
use Rattle.sy_board.proofs.relay.SetCells.{set_same}
use Rattle.sy_board.proofs.relay.Slots.{IsSlot, advanced_state, failed_state, job_of, next_of_job, slot_entries, slot_failures, slot_of, with_worker}

-- ---- what a method found, and what it made of it

pub record IsTurn (b : Inside) (w : ℕ) (slot : Worker) (o : Occurrence) (left : ℕ) : Type 0 where
  pub kept : IsKept b
  pub is : IsSlot b w slot
  pub next : IsNext (arc_value b.plan) slot.entries o left

-- a slot as a method reads it
pub slot_in : (b : Inside) (old : BoardState) (w : ℕ) (slot : Worker) → board_inside b ≡ old → IsKept b → w < length old.plan.workers → slot ≡ get_or b.workers.items w slot → IsSlot b w slot
slot_in b old w slot view kept there read = slot_of b w slot kept (subst (λ (x : BoardState). w < length x.plan.workers) (sym view) there) read

pub turn_of : (b : Inside) (old : BoardState) (w : ℕ) (slot : Worker) (plan : Plan) (o : Occurrence) (left : ℕ) → board_inside b ≡ old → IsKept b → w < length old.plan.workers
    → slot ≡ get_or b.workers.items w slot → plan ≡ arc_value b.plan → IsNext plan slot.entries o left → IsTurn b w slot o left
turn_of b old w slot plan o left view kept there read same next = record {
  kept = kept;
  is = slot_in b old w slot view kept there read;
  next = subst (λ (p : Plan). IsNext p slot.entries o left) same next;
}

-- the worker went on
pub record IsAdvanced (slot new : Worker) (left : ℕ) : Type 0 where
  pub entries : new.entries ≡ advanced_entries slot.entries left
  pub failures : new.failures ≡ 0

-- ---- what a device answered

-- a method's turn is the run of this device, on this message
pub record IsRun (b : Inside) (w : ℕ) (slot : Worker) (device : ℕ) (message : Said) (left : ℕ) : Type 0 where
  pub turn : IsTurn b w slot (occurrence.Run device) left
  pub its : turn.next.entry.message ≡ message

pub run_as : (b : Inside) (old : BoardState) (w : ℕ) (slot : Worker) (plan : Plan) (device d : ℕ) (message m : Said) (left : ℕ) → board_inside b ≡ old → IsKept b
    → w < length old.plan.workers → slot ≡ get_or b.workers.items w slot → plan ≡ arc_value b.plan → d ≡ device → m ≡ message
    → IsNextOf plan slot.entries d m left → IsRun b w slot device message left
run_as b old w slot plan device d message m left view kept there read same from reported is =
    let next : IsNextOf (arc_value b.plan) slot.entries device message left =
    subst (λ (x : Said). IsNextOf (arc_value b.plan) slot.entries device x left) reported
    (subst (λ (x : ℕ). IsNextOf (arc_value b.plan) slot.entries x m left) from (subst (λ (p : Plan). IsNextOf p slot.entries d m left) same is)) in
    record { turn = record { kept = kept; is = slot_in b old w slot view kept there read; next = next.next }; its = next.its }

abbrev its_run : (b : Inside) (w : ℕ) (slot : Worker) (device : ℕ) (message : Said) (left : ℕ) → IsRun b w slot device message left → IsOf (board_inside b) w device message
its_run b w slot device message left run = record { run = job_of b w slot (occurrence.Run device) left run.turn.is run.turn.next; its = run.its }

next_of_answer : (b : Inside) (w : ℕ) (slot : Worker) (device : ℕ) (message : Said) → IsSlot b w slot → (of : IsOf (board_inside b) w device message)
    → IsNextOf (arc_value b.plan) slot.entries device message of.run.left
next_of_answer b w slot device message is of = record { next = next_of_job b w slot (occurrence.Run device) is of.run; its = of.its }

no_run : (b : Inside) (w : ℕ) (slot : Worker) → IsSlot b w slot → (HasNextRun (arc_value b.plan) slot.entries → ⊥) → HasNoRun (board_inside b) w
no_run b w slot is none action job = none (action, job.left, next_of_job b w slot (occurrence.Run action) is job)

has_run : (b : Inside) (w : ℕ) (slot : Worker) → IsSlot b w slot → HasNextRun (arc_value b.plan) slot.entries → HasRun (board_inside b) w
has_run b w slot is (action, left, next) = (action, job_of b w slot (occurrence.Run action) left is next)

run_fails : (why : BoardFault) (b : Inside) (w : ℕ) (slot : Worker) (plan : Plan) (device d : ℕ) (message m : Said) → IsSlot b w slot → plan ≡ arc_value b.plan → d ≡ device
    → m ≡ message → RunFails why plan slot.entries d m → RunFails why (arc_value b.plan) slot.entries device message
run_fails why b w slot plan device d message m is same from reported fails =
    subst (λ (x : Said). RunFails why (arc_value b.plan) slot.entries device x) reported
    (subst (λ (x : ℕ). RunFails why (arc_value b.plan) slot.entries x m) from (subst (λ (p : Plan). RunFails why p slot.entries d m) same fails))

settle_fails_by : (why : BoardFault) (b : Inside) (w : ℕ) (slot : Worker) (receipt : Delivered) → IsSlot b w slot
    → RunFails why (arc_value b.plan) slot.entries receipt.device receipt.message → SettleFails why (board_inside b) w receipt
settle_fails_by fault.HandTaken b w slot receipt is fails = absurd fails
settle_fails_by fault.HandEmpty b w slot receipt is fails = absurd fails
settle_fails_by fault.SlotBusy b w slot receipt is fails = absurd fails
settle_fails_by fault.NoJob b w slot receipt is fails = no_run b w slot is fails
settle_fails_by fault.WrongReceipt b w slot receipt is fails =
    (has_run b w slot is fails.0, λ of. fails.1 of.run.left (next_of_answer b w slot receipt.device receipt.message is of))
settle_fails_by fault.TotalsFull b w slot receipt is fails = absurd fails
settle_fails_by fault.NotExpired b w slot receipt is fails = absurd fails

fail_fails_by : (why : BoardFault) (b : Inside) (w : ℕ) (slot : Worker) (failure : Refused) → IsSlot b w slot
    → RunFails why (arc_value b.plan) slot.entries failure.device failure.message → FailFails why (board_inside b) w failure
fail_fails_by fault.HandTaken b w slot failure is fails = absurd fails
fail_fails_by fault.HandEmpty b w slot failure is fails = absurd fails
fail_fails_by fault.SlotBusy b w slot failure is fails = absurd fails
fail_fails_by fault.NoJob b w slot failure is fails = no_run b w slot is fails
fail_fails_by fault.WrongReceipt b w slot failure is fails =
    (has_run b w slot is fails.0, λ answer. fails.1 answer.of.run.left (next_of_answer b w slot failure.device failure.message is answer.of))
fail_fails_by fault.TotalsFull b w slot failure is fails = absurd fails
fail_fails_by fault.NotExpired b w slot failure is fails = absurd fails

pub settle_fails : (why : BoardFault) (b : Inside) (w : ℕ) (slot : Worker) (plan : Plan) (receipt : Delivered) (d : ℕ) (m : Said) → IsSlot b w slot → plan ≡ arc_value b.plan
    → d ≡ receipt.device → m ≡ receipt.message → RunFails why plan slot.entries d m → SettleFails why (board_inside b) w receipt
settle_fails why b w slot plan receipt d m is same from reported fails =
    settle_fails_by why b w slot receipt is (run_fails why b w slot plan receipt.device d receipt.message m is same from reported fails)

pub fail_fails : (why : BoardFault) (b : Inside) (w : ℕ) (slot : Worker) (plan : Plan) (failure : Refused) (d : ℕ) (m : Said) → IsSlot b w slot → plan ≡ arc_value b.plan
    → d ≡ failure.device → m ≡ failure.message → RunFails why plan slot.entries d m → FailFails why (board_inside b) w failure
fail_fails why b w slot plan failure d m is same from reported fails =
    fail_fails_by why b w slot failure is (run_fails why b w slot plan failure.device d failure.message m is same from reported fails)

-- nothing was offered
pub not_offered : (b : Inside) (w : ℕ) (slot : Worker) (failure : Refused) (left : ℕ) → IsRun b w slot failure.device failure.message left
    → failure.fault ≡ device_fault.CountFull → FailFails fault.WrongReceipt (board_inside b) w failure
not_offered b w slot failure left run full = ((failure.device, (its_run b w slot failure.device failure.message left run).run), λ answer. answer.offered full)

-- ---- job

-- the first entry, as it was read
pub front_is : (plan : Plan) (es : List Entry) (o : Occurrence) (left : ℕ) (node : Entry) (next : IsNext plan es o left) → node ≡ get_or es 0 node → node ≡ next.entry
front_is plan es o left node next read = read ∙ ap (λ (xs : List Entry). get_or xs 0 node) next.held

-- what a job tells of the entry that was read
pub reported : (b : Inside) (w : ℕ) (slot : Worker) (o : Occurrence) (left : ℕ) (turn : IsTurn b w slot o left) (node : Entry) (said : Said) (input tag : ℕ) → node ≡ get_or slot.entries 0 node
    → said ≡ node.message → input ≡ node.input → tag ≡ node.tag
    → (is : Job (arc_value b.plan) (state_inside b) w o) × (said ≡ is.entry.message) × (input ≡ is.entry.input) × (tag ≡ is.entry.tag)
reported b w slot o left turn node said input tag read message from tagged =
    let same = front_is (arc_value b.plan) slot.entries o left node turn.next read in
    (job_of b w slot o left turn.is turn.next, message ∙ ap (λ (e : Entry). e.message) same, from ∙ ap (λ (e : Entry). e.input) same, tagged ∙ ap (λ (e : Entry). e.tag) same)

-- ---- settle

settles_as : (b : Inside) (w : ℕ) (slot new : Worker) (action left : ℕ) (a : Account) (turn : IsTurn b w slot (occurrence.Run action) left) → IsAdvanced slot new left
    → Settles (arc_value b.plan) (state_inside b) w action turn.next.entry (state_inside (with_worker b w new a))
settles_as b w slot new action left a turn on = record {
  job = job_of b w slot (occurrence.Run action) left turn.is turn.next;
  its = refl;
  after = advanced_state b w slot new (occurrence.Run action) left a turn.is turn.next on.entries on.failures;
}

settled_account : (b : Inside) (w : ℕ) (action : ℕ) (e : Entry) (new : Worker) (a : Account) → IsKept b → a ≡ after_done action b.accounts
    → a ≡ account_of (stepped (board_inside b) (Event.Done w) (state_inside (with_worker b w new a)) (Out.Passed action e ∷ []))
settled_account b w action e new a kept counted =
    counted ∙ ap (after_done action) kept.orderly.counted ∙ sym (done_account (board_inside b) w action e (state_inside (with_worker b w new a)) refl refl)

pub settled_kept : (b : Inside) (w : ℕ) (slot new : Worker) (action left : ℕ) (a : Account) → IsTurn b w slot (occurrence.Run action) left → IsAdvanced slot new left
    → a ≡ after_done action b.accounts → IsKept (with_worker b w new a)
settled_kept b w slot new action left a turn on counted =
    let e = turn.next.entry in
    kept_after b w new a (Event.Done w) (Out.Passed action e ∷ []) turn.kept (action, e, settles_as b w slot new action left a turn on, refl)
    (settled_account b w action e new a turn.kept counted)

pub settled_is : (b : Inside) (w : ℕ) (slot new : Worker) (receipt : Delivered) (left : ℕ) (a : Account) → IsRun b w slot receipt.device receipt.message left
    → IsAdvanced slot new left → a ≡ after_done receipt.device b.accounts → SettleIs (board_inside b) w receipt (board_inside (with_worker b w new a))
settled_is b w slot new receipt left a run on counted =
    let e = run.turn.next.entry in (
      its_run b w slot receipt.device receipt.message left run,
      settles_as b w slot new receipt.device left a run.turn on,
      board_after b w new a (Event.Done w) (Out.Passed receipt.device e ∷ []) (settled_account b w receipt.device e new a run.turn.kept counted),
    )

pub settle_full : (b : Inside) (w : ℕ) (slot : Worker) (receipt : Delivered) (left : ℕ) → IsRun b w slot receipt.device receipt.message left
    → (Fits (after_done receipt.device b.accounts) → ⊥) → SettleFails fault.TotalsFull (board_inside b) w receipt
settle_full b w slot receipt left run full =
    let of = its_run b w slot receipt.device receipt.message left run in
    let e = run.turn.next.entry in
    let new = advanced (arc_value b.plan) (state_inside b) w (occurrence.Run receipt.device) of.run in
    let count = done_account (board_inside b) w receipt.device e new refl refl ∙ ap (after_done receipt.device) (sym run.turn.kept.orderly.counted) in
    (of, new, record { job = of.run; its = refl; after = refl }, λ fits. full (subst Fits count fits))

-- what is handed out
pub left_is : (b : Inside) (w : ℕ) (slot new : Worker) (a : Account) (out : Option Entry) → IsSlot b w slot
    → IfSome out (λ node. slot.entries ≡ node ∷ new.entries) → IfNone out (length new.entries ≡ length slot.entries)
    → LeftIs out (state_inside b) w (state_inside (with_worker b w new a))
left_is b w slot new a out is some none = go out some none
  where
    now : get_or (map (λ (x : Worker). x.entries) (set b.workers.items w new)) w [] ≡ new.entries
    now = rw map-set (set_same (map (λ (x : Worker). x.entries) b.workers.items) w new.entries [] (rw length-map is.within))

    go : (out : Option Entry) → IfSome out (λ node. slot.entries ≡ node ∷ new.entries) → IfNone out (length new.entries ≡ length slot.entries)
        → LeftIs out (state_inside b) w (state_inside (with_worker b w new a))
    go None some none = ap length now ∙ none ∙ sym (ap length (slot_entries b w slot is))
    go (Some node) some none = slot_entries b w slot is ∙ some ∙ ap (λ (es : List Entry). node ∷ es) (sym now)

-- ---- failed

-- the same entries are left, and the failure is counted where there is a limit
pub record IsAgain (limit : Option ℕ) (slot new : Worker) : Type 0 where
  pub may : MayTry limit slot.failures
  pub entries : new.entries ≡ slot.entries
  pub failures : new.failures ≡ one_more limit slot.failures

pub again_forever : (limit : Option ℕ) (slot new : Worker) → limit ≡ None → new.entries ≡ slot.entries → new.failures ≡ slot.failures → IsAgain limit slot new
again_forever limit slot new none entries failures = subst (λ l. IsAgain l slot new) (sym none) (record { may = tt; entries = entries; failures = failures })

pub again_counted : (limit : Option ℕ) (slot new : Worker) (r : ℕ) → limit ≡ Some r → slot.failures < r → new.entries ≡ slot.entries → new.failures ≡ slot.failures + 1
    → IsAgain limit slot new
again_counted limit slot new r some less entries failures = subst (λ l. IsAgain l slot new) (sym some) (record { may = less; entries = entries; failures = failures })

fails_as : (b : Inside) (w : ℕ) (slot new : Worker) (action left : ℕ) (turn : IsTurn b w slot (occurrence.Run action) left)
    → IsAgain (retry_at (arc_value b.plan) action) slot new
    → Fails (arc_value b.plan) (state_inside b) w action turn.next.entry (state_inside (with_worker b w new b.accounts))
fails_as b w slot new action left turn again =
    let so_often = sym (slot_failures b w slot turn.is) in
    record {
      job = job_of b w slot (occurrence.Run action) left turn.is turn.next;
      its = refl;
      again = subst (MayTry (retry_at (arc_value b.plan) action)) so_often again.may;
      after = failed_state b w slot new (one_more (retry_at (arc_value b.plan) action) (failures_at (state_inside b) w)) b.accounts turn.is again.entries
          (again.failures ∙ ap (one_more (retry_at (arc_value b.plan) action)) so_often);
    }

failed_account : (b : Inside) (w action : ℕ) (took : Bool) (e : Entry) (new : Worker) → IsKept b
    → b.accounts ≡ account_of (stepped (board_inside b) (Event.Fail w took) (state_inside (with_worker b w new b.accounts)) (if_so took (Out.Passed action e)))
failed_account b w action took e new kept =
    kept.orderly.counted ∙ sym (fail_account (board_inside b) w action took e (state_inside (with_worker b w new b.accounts)) refl refl)

pub again_kept : (b : Inside) (w : ℕ) (slot new : Worker) (action left : ℕ) → IsTurn b w slot (occurrence.Run action) left
    → IsAgain (retry_at (arc_value b.plan) action) slot new → IsKept (with_worker b w new b.accounts)
again_kept b w slot new action left turn again =
    let e = turn.next.entry in
    kept_after b w new b.accounts (Event.Fail w false) [] turn.kept (action, e, fails_as b w slot new action left turn again, refl)
    (failed_account b w action false e new turn.kept)

-- the failure is of the job, and its message was offered
pub record IsRefused (b : Inside) (w : ℕ) (slot : Worker) (failure : Refused) (left : ℕ) : Type 0 where
  pub run : IsRun b w slot failure.device failure.message left
  pub offered : failure.fault ≢ device_fault.CountFull

abbrev pub its_failure : (b : Inside) (w : ℕ) (slot : Worker) (failure : Refused) (left : ℕ) → IsRefused b w slot failure left → IsFailureOf (board_inside b) w failure
its_failure b w slot failure left is = record { of = its_run b w slot failure.device failure.message left is.run; offered = is.offered }

pub again_is : (b : Inside) (w : ℕ) (slot new : Worker) (failure : Refused) (left : ℕ) → IsRefused b w slot failure left
    → IsAgain (retry_at (arc_value b.plan) failure.device) slot new → FailIs retry.Again (board_inside b) w failure (board_inside (with_worker b w new b.accounts))
again_is b w slot new failure left is again =
    let turn = is.run.turn in
    let e = turn.next.entry in (
      its_failure b w slot failure left is,
      fails_as b w slot new failure.device left turn again,
      λ took. board_after b w new b.accounts (Event.Fail w took) (if_so took (Out.Passed failure.device e)) (failed_account b w failure.device took e new turn.kept),
    )

-- the job has failed as often as it may be tried again, and this is whether its loss counts as a guarded one
pub record IsLast (b : Inside) (w : ℕ) (slot : Worker) (failure : Refused) (left : ℕ) (guarded : Bool) : Type 0 where
  pub is : IsRefused b w slot failure left
  pub last : retry_at (arc_value b.plan) failure.device ≡ Some slot.failures
  pub marked : guarded ≡ is_guarded_loss (arc_value b.plan) (guard_of (board_inside b)) (Cause.GiveUp failure.device) is.run.turn.next.entry

pub last_of : (b : Inside) (w : ℕ) (slot : Worker) (failure : Refused) (left r : ℕ) (guarded : Bool) (node : Entry) → IsRefused b w slot failure left
    → retry_at (arc_value b.plan) failure.device ≡ Some r → r ≤ slot.failures → node ≡ get_or slot.entries 0 node
    → guarded ≡ is_guarded_loss (arc_value b.plan) (guard_of (board_inside b)) (Cause.GiveUp failure.device) node → IsLast b w slot failure left guarded
last_of b w slot failure left r guarded node is limit most read marked =
    let turn = is.run.turn in
    let patient = turn.kept.orderly.patient.runs w failure.device r (job_of b w slot (occurrence.Run failure.device) left turn.is turn.next) limit in
    let so_often = slot_failures b w slot turn.is in
    let same : r ≡ slot.failures = omega (arith, patient, so_often, most) in
    record {
      is = is;
      last = limit ∙ ap (λ (n : ℕ). Some n) same;
      marked = marked ∙ ap (is_guarded_loss (arc_value b.plan) (guard_of (board_inside b)) (Cause.GiveUp failure.device)) (front_is (arc_value b.plan) slot.entries (occurrence.Run failure.device) left node turn.next read);
    }

gives_as : (b : Inside) (w : ℕ) (slot new : Worker) (failure : Refused) (left : ℕ) (guarded : Bool) (a : Account) (last : IsLast b w slot failure left guarded)
    → IsAdvanced slot new left
    → GivesUp (arc_value b.plan) (state_inside b) w failure.device last.is.run.turn.next.entry (state_inside (with_worker b w new a))
gives_as b w slot new failure left guarded a last on =
    let turn = last.is.run.turn in
    record {
      job = job_of b w slot (occurrence.Run failure.device) left turn.is turn.next;
      its = refl;
      last = last.last ∙ ap (λ (n : ℕ). Some n) (sym (slot_failures b w slot turn.is));
      after = advanced_state b w slot new (occurrence.Run failure.device) left a turn.is turn.next on.entries on.failures;
    }

given_up_account : (b : Inside) (w : ℕ) (slot new : Worker) (failure : Refused) (left : ℕ) (guarded took : Bool) (a : Account) (last : IsLast b w slot failure left guarded)
    → a ≡ after_give_up failure.device guarded b.accounts
    → a ≡ account_of (stepped (board_inside b) (Event.GiveUp w took) (state_inside (with_worker b w new a))
    (Out.Lost (Cause.GiveUp failure.device) last.is.run.turn.next.entry ∷ if_so took (Out.Passed failure.device last.is.run.turn.next.entry)))
given_up_account b w slot new failure left guarded took a last counted =
    counted ∙ ap (after_give_up failure.device guarded) last.is.run.turn.kept.orderly.counted
    ∙ ap (λ g. after_give_up failure.device g (account_of (board_inside b))) last.marked
    ∙ sym (give_up_account (board_inside b) w failure.device took last.is.run.turn.next.entry (state_inside (with_worker b w new a)) refl refl)

pub given_up_kept : (b : Inside) (w : ℕ) (slot new : Worker) (failure : Refused) (left : ℕ) (guarded : Bool) (a : Account) → IsLast b w slot failure left guarded
    → IsAdvanced slot new left → a ≡ after_give_up failure.device guarded b.accounts → IsKept (with_worker b w new a)
given_up_kept b w slot new failure left guarded a last on counted =
    let e = last.is.run.turn.next.entry in
    kept_after b w new a (Event.GiveUp w false) (Out.Lost (Cause.GiveUp failure.device) e ∷ []) last.is.run.turn.kept
    (failure.device, e, gives_as b w slot new failure left guarded a last on, refl) (given_up_account b w slot new failure left guarded false a last counted)

pub given_up_is : (b : Inside) (w : ℕ) (slot new : Worker) (failure : Refused) (left : ℕ) (guarded : Bool) (a : Account) → IsLast b w slot failure left guarded
    → IsAdvanced slot new left → a ≡ after_give_up failure.device guarded b.accounts
    → FailIs retry.GaveUp (board_inside b) w failure (board_inside (with_worker b w new a))
given_up_is b w slot new failure left guarded a last on counted =
    let e = last.is.run.turn.next.entry in (
      its_failure b w slot failure left last.is,
      gives_as b w slot new failure left guarded a last on,
      λ took. board_after b w new a (Event.GiveUp w took) (Out.Lost (Cause.GiveUp failure.device) e ∷ if_so took (Out.Passed failure.device e))
          (given_up_account b w slot new failure left guarded took a last counted),
    )

pub give_up_full : (b : Inside) (w : ℕ) (slot : Worker) (failure : Refused) (left : ℕ) (guarded : Bool) → IsLast b w slot failure left guarded
    → (Fits (after_give_up failure.device guarded b.accounts) → ⊥) → FailFails fault.TotalsFull (board_inside b) w failure
give_up_full b w slot failure left guarded last full =
    let turn = last.is.run.turn in
    let job = job_of b w slot (occurrence.Run failure.device) left turn.is turn.next in
    let e = turn.next.entry in
    let new = advanced (arc_value b.plan) (state_inside b) w (occurrence.Run failure.device) job in
    let count = give_up_account (board_inside b) w failure.device false e new refl refl
    ∙ ap (λ g. after_give_up failure.device g (account_of (board_inside b))) (sym last.marked)
    ∙ ap (after_give_up failure.device guarded) (sym turn.kept.orderly.counted) in (
      its_failure b w slot failure left last.is,
      new,
      record { job = job; its = refl; last = last.last ∙ ap (λ (n : ℕ). Some n) (sym (slot_failures b w slot turn.is)); after = refl },
      λ fits. full (subst Fits count fits),
    )
