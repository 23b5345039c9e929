-- What the steps of a worker's job make of the accounts.
use Rattle.std.proofs.Common.{◌≡◌, ℕ, ◌+◌, ◌<◌, ◌==◌, eq-eqb, Bool, true, false, if◌then◌else◌, List, [], ◌∷◌, length, refl, sym, subst, ap, arith, Option, Some, None}
use Rattle.std.specs.Prelude.{slice_get, IfSome, All}
use Rattle.std.specs.Arc.{arc_value}
use Rattle.sy_chain.specs.Entries.{Entry}
use Rattle.sy_rules.specs.declared.lists.occurrence.Occurrence.{Occurrence}
use Rattle.sy_rules.specs.declared.lists.occurrence.Occurrence.TheVariants as occurrence
use Rattle.sy_rules.specs.PlanValue.{Listed, Plan}
use Rattle.sy_rules.specs.Whole.{IsWhole, Leads, body_in}
use Rattle.sy_rules.specs.lists.Body.{occurrences}
use Rattle.sy_board.specs.declared.relay.board.Board.TheInside.{Inside}
use Rattle.sy_board.specs.declared.relay.board.Worker.{Worker}
use Rattle.sy_board.specs.relay.Boards.{Account, BoardState, account_of, guard_of, stepped}
use Rattle.sy_board.specs.relay.Cells.{RelayState}
use Rattle.sy_board.specs.relay.Plans.{occurrences_at}
use Rattle.sy_board.specs.relay.Steps.{Cause, Event, Job, Out, Step, advanced, if_so}
use Rattle.sy_board.specs.relay.Totals.{Totals, is_guarded_loss, is_run_of, left_of}
use Rattle.sy_board.specs.internal.Counting.{HasRunLeft, after_done, after_give_up, one_if}
use Rattle.sy_board.specs.internal.Kept.{IsKept, IsOrderly, board_inside, state_inside}
use Rattle.sy_board.proofs.relay.AccountLaws.{advanced_sum}
use Rattle.sy_board.proofs.relay.Orderly.{orderly_step}
use Rattle.sy_board.proofs.relay.Slots.{with_worker}
use Rattle.sy_board.proofs.relay.There.{worker_there}

-- ---- a run is left

at_found : {A : Type 0} (P : A → Type 0) (xs : List A) (k : ℕ) → All P xs → IfSome (slice_get xs k) P
at_found P [] k all = tt
at_found P (x ∷ xs) ℕ.zero all = all 0 x (omega arith)
at_found P (x ∷ xs) (ℕ.suc k) all = at_found P xs k (λ j d l. all (ℕ.suc j) d (omega (arith, l)))

-- an occurrence of a list leads somewhere
leads_of : (plan : Plan) → IsWhole plan → (list number : ℕ) (o : Occurrence) → slice_get (occurrences_at plan list) number ≡ Some o → Leads plan o
leads_of plan whole list number o found = go (slice_get plan.lists list) (at_found (λ l. All (Leads plan) (occurrences l.body)) plan.lists list whole.occurrences_lead) found
  where
    nothing : (p : Occurrence) → None ≡ Some p → ⊥
    nothing p h = cc

    go : (there : Option Listed) → IfSome there (λ l. All (Leads plan) (occurrences l.body)) → slice_get (occurrences (body_in there)) number ≡ Some o → Leads plan o
    go None all is = absurd (nothing o is)
    go (Some l) all is = subst (λ x. IfSome x (Leads plan)) is (at_found (Leads plan) (occurrences l.body) number all)

pub run_left : (b : Inside) → IsKept b → (w action : ℕ) → Job (arc_value b.plan) (state_inside b) w (occurrence.Run action) → HasRunLeft action b.accounts
run_left b kept w action job =
    let o = kept.orderly in
    let there : action < length (arc_value b.plan).actions = leads_of (arc_value b.plan) o.whole job.entry.list job.number (occurrence.Run action) job.found in
    let counted : action < length b.accounts.totals.actions = let same = o.laws.actions in omega (arith, same, there) in
    let law = o.laws.runs action counted in
    let sum : left_of (arc_value b.plan) (is_run_of action) (advanced (arc_value b.plan) (state_inside b) w (occurrence.Run action) job) + (if action == action then 1 else 0) ≡ left_of (arc_value b.plan) (is_run_of action) (state_inside b)
    = advanced_sum (arc_value b.plan) (is_run_of action) (state_inside b) w (occurrence.Run action) job (worker_there (arc_value b.plan) (state_inside b) w o.shaped job.there) in
    let same : (action == action) ≡ true = eq-eqb action action refl in
    let less = rw same at sum in
    omega (arith, law, less)

-- ---- the account after a step

none_more : (n : ℕ) → n + 0 ≡ n
none_more n = omega arith

pub done_account : (old : BoardState) (w action : ℕ) (e : Entry) (new : RelayState) → new.hands ≡ old.state.hands → new.queues ≡ old.state.queues
    → account_of (stepped old (Event.Done w) new (Out.Passed action e ∷ [])) ≡ after_done action (account_of old)
done_account old w action e new hands queues = rw (hands, queues, none_more old.totals.guarded_lost) refl

pub fail_account : (old : BoardState) (w action : ℕ) (took : Bool) (e : Entry) (new : RelayState) → new.hands ≡ old.state.hands → new.queues ≡ old.state.queues
    → account_of (stepped old (Event.Fail w took) new (if_so took (Out.Passed action e))) ≡ account_of old
fail_account old w action true e new hands queues = rw (hands, queues, none_more old.totals.guarded_lost) refl
fail_account old w action false e new hands queues = rw (hands, queues, none_more old.totals.guarded_lost) refl

pub give_up_account : (old : BoardState) (w action : ℕ) (took : Bool) (e : Entry) (new : RelayState) → new.hands ≡ old.state.hands → new.queues ≡ old.state.queues
    → account_of (stepped old (Event.GiveUp w took) new (Out.Lost (Cause.GiveUp action) e ∷ if_so took (Out.Passed action e))) ≡ after_give_up action (is_guarded_loss old.plan (guard_of old) (Cause.GiveUp action) e) (account_of old)
give_up_account old w action true e new hands queues = rw (hands, queues, none_more (one_if (is_guarded_loss old.plan (guard_of old) (Cause.GiveUp action) e))) refl
give_up_account old w action false e new hands queues = rw (hands, queues, none_more (one_if (is_guarded_loss old.plan (guard_of old) (Cause.GiveUp action) e))) refl

-- ---- the board after a step

-- it is the one stepped to
pub board_after : (b : Inside) (w : ℕ) (new : Worker) (a : Account) (event : Event) (outs : List Out)
    → a ≡ account_of (stepped (board_inside b) event (state_inside (with_worker b w new a)) outs)
    → board_inside (with_worker b w new a) ≡ stepped (board_inside b) event (state_inside (with_worker b w new a)) outs
board_after b w new a event outs is = ap (λ (t : Totals). record (board_inside (with_worker b w new a)) { totals = t }) (ap (λ (x : Account). x.totals) is)

-- and is kept
pub kept_after : (b : Inside) (w : ℕ) (new : Worker) (a : Account) (event : Event) (outs : List Out) → IsKept b
    → Step (arc_value b.plan) (state_inside b) event (state_inside (with_worker b w new a)) outs
    → a ≡ account_of (stepped (board_inside b) event (state_inside (with_worker b w new a)) outs) → IsKept (with_worker b w new a)
kept_after b w new a event outs kept step is = record {
  marks = kept.marks;
  orderly =
      let old = subst (IsOrderly (board_inside b)) kept.orderly.counted kept.orderly in
      let next = orderly_step (board_inside b) old event (state_inside (with_worker b w new a)) outs step in
      subst (λ (x : BoardState). IsOrderly x a) (sym (board_after b w new a event outs is))
      (subst (IsOrderly (stepped (board_inside b) event (state_inside (with_worker b w new a)) outs)) (sym is) next);
}
