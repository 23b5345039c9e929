-- What a plan has for whatever its relay holds: queues that hold nothing back while they are empty, a worker for each, a due set for each message,
-- and what occurrences name.
use Rattle.std.proofs.Common.{◌≡◌, ℕ, ◌+◌, ◌<◌, ◌≤◌, ◌==◌, Bool, true, false, List, [], ◌∷◌, ◌++◌, length, refl, sym, subst, ap, arith, ◌∙◌, get_or, Option, Some, None, All, inl, inr, replicate}
use Rattle.std.specs.Prelude.{slice_get, IfSome, option_and_then, option_map}
use Rattle.std.specs.List.{position}
use Rattle.std.proofs.lemmas.Bool.Decides.{nat_tests}
use Rattle.std.proofs.lemmas.List.Quantifiers.{position-Some}
use Rattle.std.proofs.lemmas.Option.{slice_get_cases, slice_get-get_or}
use Rattle.sy_wire.specs.Messages.{Said}
use Rattle.sy_marks.specs.declared.marks.Flow.{Flow}
use Rattle.sy_marks.specs.declared.marks.Flow.TheVariants as flow
use Rattle.sy_marks.specs.declared.marks.Marks.{Marks}
use Rattle.sy_marks.specs.Marks.{is_delayed, is_reached}
use Rattle.sy_rules.specs.declared.lists.occurrence.Occurrence.{Occurrence}
use Rattle.sy_rules.specs.declared.parameters.objects.Destination.{Destination}
use Rattle.sy_rules.specs.declared.parameters.objects.Destination.TheVariants as destination
use Rattle.sy_rules.specs.declared.parameters.settings.FlowControl.TheVariants as control
use Rattle.sy_rules.specs.declared.parameters.settings.QueueParameters.{QueueParameters}
use Rattle.sy_rules.specs.declared.parts.Action.{Action}
use Rattle.sy_rules.specs.declared.parts.Input.{Input}
use Rattle.sy_rules.specs.parameters.Objects.{AreInRange}
use Rattle.sy_rules.specs.parts.Plans.{workers_from}
use Rattle.sy_rules.specs.PlanValue.{Plan, Listed}
use Rattle.sy_rules.specs.lists.Body.{Body, count, is_in, occurrences}
use Rattle.sy_rules.specs.lists.Work.{valuation_of, work}
use Rattle.sy_rules.specs.Whole.{IsWhole, Leads, body_at, body_in}
use Rattle.sy_rules.proofs.lemmas.lists.WorkLaws.{of_the_list}
use Rattle.sy_board.specs.relay.Plans.{IsDue, occurrences_at, parameters_at}
use Rattle.sy_flowing.proofs.relay.DueNumbers.{set_of}
use Rattle.sy_site.specs.declared.site.SiteInput.{SiteInput}
use Rattle.sy_site.specs.Sites.{Site, input_at_port, plan_at, relay_named, target_of}
use Rattle.sy_site.specs.machine.Lawful.{IsInput}
use Rattle.sy_flowing.proofs.steps.Measure.{at_or_none}

-- ---- an empty queue holds nothing back

not_reached : (m : ℕ) → 0 < m → is_reached m 0 ≡ false
not_reached m l = grind (arith, nat_tests)

pub never_delayed : (f : Flow) (marks : Marks) → is_delayed f marks 0 ≡ false
never_delayed flow.Full marks = go marks.full_delay_mark
  where
    go : (m : ℕ) → is_reached m 0 ≡ false
    go ℕ.zero = refl
    go (ℕ.suc m) = not_reached (ℕ.suc m) (omega arith)
never_delayed flow.Light marks = refl
never_delayed flow.NoWait marks = refl

-- what holds a message at the mark
pub delayed_says : (f : Flow) (marks : Marks) (n : ℕ) → is_delayed f marks n ≡ true → (f ≡ flow.Full) × ((1 ≤ marks.full_delay_mark) × (marks.full_delay_mark ≤ n))
delayed_says flow.Full marks n t = (refl, (grind (arith, nat_tests), grind (arith, nat_tests)))
delayed_says flow.Light marks n t = absurd (cc)
delayed_says flow.NoWait marks n t = absurd (cc)

pub parameters_in_range : (plan : Plan) (q : ℕ) → IsWhole plan → q < length plan.queues → AreInRange (parameters_at plan q)
parameters_in_range plan q whole l = whole.queue_ranges q _ l

-- ---- each queue has a worker

skip_replicated : (n w k d : ℕ) (ys : List ℕ) → get_or (replicate n k ++ ys) (n + w) d ≡ get_or ys w d
skip_replicated ℕ.zero w k d ys = ap (λ z. get_or ys z d) (omega arith)
skip_replicated (ℕ.suc n) w k d ys =
    let more : ℕ.suc n + w ≡ ℕ.suc (n + w) = omega arith in
    ap (λ z. get_or (k ∷ (replicate n k ++ ys)) z d) more ∙ skip_replicated n w k d ys

past_replicated : (n w k : ℕ) (ys : List ℕ) → w < length ys → n + w < length (replicate n k ++ ys)
past_replicated ℕ.zero w k ys l = omega (arith, l)
past_replicated (ℕ.suc n) w k ys l = let r = past_replicated n w k ys l in omega (arith, r)

pub record HasWorker (workers : List ℕ) (queue : ℕ) : Type 0 where
  pub worker : ℕ
  pub there : worker < length workers
  pub takes : get_or workers worker 0 ≡ queue

first_replicated : (n k d : ℕ) (ys : List ℕ) → 1 ≤ n → get_or (replicate n k ++ ys) 0 d ≡ k
first_replicated ℕ.zero k d ys l = absurd (omega (arith, l))
first_replicated (ℕ.suc n) k d ys l = refl

some_replicated : (n k : ℕ) (ys : List ℕ) → 1 ≤ n → 0 < length (replicate n k ++ ys)
some_replicated ℕ.zero k ys l = absurd (omega (arith, l))
some_replicated (ℕ.suc n) k ys l = omega arith

worker_from : (k : ℕ) (qs : List QueueParameters) → All AreInRange qs → (q : ℕ) → q < length qs → HasWorker (workers_from k qs) (k + q)
worker_from k [] all q l = absurd (omega (arith, l))
worker_from k (x ∷ qs) all ℕ.zero l =
    let one : 1 ≤ x.workers = (all 0 x (omega arith)).workers_least in
    record {
      worker = 0;
      there = some_replicated x.workers k (workers_from (k + 1) qs) one;
      takes = first_replicated x.workers k 0 (workers_from (k + 1) qs) one ∙ omega arith;
    }
worker_from k (x ∷ qs) all (ℕ.suc q) l =
    let r = worker_from (k + 1) qs (λ j d m. all (ℕ.suc j) d (omega (arith, m))) q (omega (arith, l)) in
    record {
      worker = x.workers + r.worker;
      there = past_replicated x.workers r.worker k (workers_from (k + 1) qs) r.there;
      takes = skip_replicated x.workers r.worker k 0 (workers_from (k + 1) qs) ∙ r.takes ∙ omega arith;
    }

pub worker_for : (plan : Plan) → IsWhole plan → (q : ℕ) → q < length plan.queues → HasWorker plan.workers q
worker_for plan whole q l = subst (λ ws. HasWorker ws q) (sym whole.workers)
    (subst (λ z. HasWorker (workers_from 0 plan.queues) z) (omega arith) (worker_from 0 plan.queues whole.queue_ranges q l))

-- ---- a due set for each message

pub record HasDue (plan : Plan) (list : ℕ) (message : Said) : Type 0 where
  pub due : ℕ
  pub is : IsDue plan list message due

pub due_for : (plan : Plan) (list : ℕ) (message : Said) → HasDue plan list message
due_for plan list message =
    let b = body_at plan list in
    let r = set_of (count b) (λ k. is_in k (work b message)) (beyond b) in
    record { due = r.0; is = r.1 }
  where
    beyond : (b : Body) (k : ℕ) → count b ≤ k → is_in k (work b message) ≡ false
    beyond b k l = go (is_in k (work b message)) refl
      where
        go : (t : Bool) → is_in k (work b message) ≡ t → t ≡ false
        go true e = let m = of_the_list b (valuation_of b message) k e in absurd (omega (arith, l, m))
        go false e = refl

-- ---- what occurrences name is there

runs_in : (plan : Plan) (found : Option Listed) → IfSome found (λ l. All (Leads plan) (occurrences l.body)) → (number : ℕ) (o : Occurrence)
    → slice_get (occurrences (body_in found)) number ≡ Some o → Leads plan o
runs_in plan None t number o e = cc
runs_in plan (Some l) t number o e =
    subst (λ (z : Option Occurrence). IfSome z (Leads plan)) e (at_or_none (Leads plan) (occurrences l.body) number t)

pub leads_at : (plan : Plan) → IsWhole plan → (list number : ℕ) (o : Occurrence) → slice_get (occurrences_at plan list) number ≡ Some o → Leads plan o
leads_at plan whole list number o e =
    runs_in plan (slice_get plan.lists list) (at_or_none (λ (l : Listed). All (Leads plan) (occurrences l.body)) plan.lists list whole.occurrences_lead) number o e

-- what a forward leads to is there (the checker's own lemma, `sy_checker/proofs/There.antt`)
pub no_value : {A : Type 0} {x : A} → None ≡ Some x → ⊥
no_value e = cc

one_value : {A : Type 0} {x y : A} → Some x ≡ Some y → x ≡ y
one_value e = cc

no_input : Input
no_input = record { port = 1; flow = control.Off; list = 0; queue = 0; unread_file = None }

at_port : (site : Site) (relay port : ℕ) (found : Option ℕ) → position (λ i. i.port == port) (plan_at site relay).inputs ≡ found → (e : SiteInput)
    → option_map (λ i. record { relay = relay; input = i }) found ≡ Some e → IsInput site e
at_port site relay port None is e none = absurd (no_value none)
at_port site relay port (Some i) is e some =
    let inputs = (plan_at site relay).inputs in
    let at = position-Some (λ (i : Input). i.port == port) inputs i no_input is in
    subst (IsInput site) (one_value some) (record { parts = get_or inputs i no_input; found = slice_get-get_or inputs i no_input at.0 })

at_relay : (site : Site) (port : ℕ) (found : Option ℕ) (e : SiteInput) → option_and_then (λ relay. input_at_port site relay port) found ≡ Some e
    → IsInput site e
at_relay site port None e none = absurd (no_value none)
at_relay site port (Some relay) e some = at_port site relay port (position (λ i. i.port == port) (plan_at site relay).inputs) refl e some

leads_there : (site : Site) (name : List ℕ) (d : Destination) (retry : Option ℕ) (wait : ℕ) (e : SiteInput)
    → target_of site (Some (record { name = name; destination = d; retry = retry; resume_interval = wait })) ≡ Some e → IsInput site e
leads_there site name (destination.Archive file) retry wait e some = absurd (no_value some)
leads_there site name (destination.Forward to port) retry wait e some = at_relay site port (relay_named site.relays to) e some

pub input_of_target : (site : Site) (action : Option Action) (e : SiteInput) → target_of site action ≡ Some e → IsInput site e
input_of_target site None e none = absurd (no_value none)
input_of_target site (Some action) e some = leads_there site action.name action.destination action.retry action.resume_interval e some

pub get_within : {A : Type 0} (xs : List A) (i : ℕ) (x : A) → slice_get xs i ≡ Some x → i < length xs
get_within xs i x e = elim (slice_get_cases xs i).1 [
  | inl h ↦ h.1
  | inr h ↦ absurd (no_value (sym h.1 ∙ e))
]

pub input_found : (site : Site) (r i : ℕ) → i < length (plan_at site r).inputs → IsInput site (record { relay = r; input = i })
input_found site r i l = record { parts = get_or (plan_at site r).inputs i no_input; found = slice_get-get_or (plan_at site r).inputs i no_input l }
