-- Lists that messages may come to.
use Rattle.std.proofs.Common.{◌≡◌, ℕ, ◌<◌, ◌==◌, ◌||◌, Bool, true, false, List, [], ◌∷◌, length, get_or, Option, Some, None, refl, sym, ap, subst, ◌∙◌, arith, eq-eqb}
use Rattle.std.specs.Prelude.{is_some, slice_get}
use Rattle.std.specs.List.{list_any}
use Rattle.std.proofs.lemmas.Bool.{false≢true}
use Rattle.std.proofs.lemmas.Option.{get_or_from_slice_get, slice_get_within}
use Rattle.sy_rules.specs.declared.lists.occurrence.Occurrence.{Occurrence}
use Rattle.sy_rules.specs.declared.lists.occurrence.Occurrence.TheVariants as occurrence
use Rattle.sy_rules.specs.declared.parameters.settings.FlowControl.TheVariants as control
use Rattle.sy_rules.specs.declared.parts.Input.{Input}
use Rattle.sy_rules.specs.PlanValue.{Listed, Plan}
use Rattle.sy_rules.specs.Whole.{IsWhole, Leads, body_in, queue_at, queue_in}
use Rattle.sy_rules.specs.lists.Body.{occurrences}
use Rattle.sy_board.specs.relay.Plans.{occurrences_at}
use Rattle.sy_site.specs.declared.site.SiteInput.{SiteInput}
use Rattle.sy_site.specs.Sites.{Relay, Site, plan_at, plan_in}
use Rattle.sy_site.specs.machine.Lawful.{IsInput, IsLawful}
use Rattle.sy_site.specs.machine.Reach.{list_of, occurrence_at}
use Rattle.sy_flows.specs.Flows.{is_used}
use Rattle.sy_flows.specs.Hops.{is_input_list}
use Rattle.sy_flows.proofs.Places.{some_at}

no_value : {A : Type 0} {x : A} → None ≡ Some x → ⊥
no_value e = cc

-- ---- lists that posts lead to

leads_in : (plan : Plan) → IsWhole plan → (list : ℕ) (found : Option Listed) → slice_get plan.lists list ≡ found → (number : ℕ) (is : Occurrence)
    → slice_get (occurrences (body_in found)) number ≡ Some is → Leads plan is
leads_in plan whole list None at number is here = absurd (no_value here)
leads_in plan whole list (Some l) at number is here =
    let low = slice_get_within plan.lists list l at in
    let each = subst (λ (x : Listed). (k : ℕ) (d : Occurrence) → k < length (occurrences x.body) → Leads plan (get_or (occurrences x.body) k d))
    (get_or_from_slice_get plan.lists list l l at) (whole.occurrences_lead list l low) in
    subst (Leads plan) (get_or_from_slice_get (occurrences l.body) number is is here) (each number is (slice_get_within (occurrences l.body) number is here))

pub post_leads : (plan : Plan) → IsWhole plan → (list number inner : ℕ) → slice_get (occurrences_at plan list) number ≡ Some (occurrence.Post inner)
    → is_some (queue_at plan inner) ≡ true
post_leads plan whole list number inner here = leads_in plan whole list (slice_get plan.lists list) refl number (occurrence.Post inner) here

list_in : (lists : List Listed) (list : ℕ) (found : Option Listed) → slice_get lists list ≡ found → is_some (queue_in found) ≡ true → list < length lists
list_in lists list None at e = absurd (false≢true e)
list_in lists list (Some l) at e = slice_get_within lists list l at

pub post_there : (plan : Plan) → IsWhole plan → (list number inner : ℕ) → slice_get (occurrences_at plan list) number ≡ Some (occurrence.Post inner)
    → inner < length plan.lists
post_there plan whole list number inner here =
    list_in plan.lists inner (slice_get plan.lists inner) refl (post_leads plan whole list number inner here)

first_so : (a b : Bool) → a ≡ true → (a || b) ≡ true
first_so true b e = refl
first_so false b e = absurd (false≢true e)

second_so : (a b : Bool) → b ≡ true → (a || b) ≡ true
second_so true b e = refl
second_so false b e = e

pub post_used : (plan : Plan) → IsWhole plan → (list number inner : ℕ) → slice_get (occurrences_at plan list) number ≡ Some (occurrence.Post inner)
    → is_used plan inner ≡ true
post_used plan whole list number inner here =
    first_so (is_some (queue_at plan inner)) (is_input_list plan inner) (post_leads plan whole list number inner here)

-- ---- lists of inputs

pub input_used : (plan : Plan) (list : ℕ) → is_input_list plan list ≡ true → is_used plan list ≡ true
input_used plan list is = second_so (is_some (queue_at plan list)) (is_input_list plan list) is

no_input : Input
no_input = record { port = 0; flow = control.Off; list = 0; queue = 0; unread_file = None }

pub input_list : (site : Site) (input : SiteInput) → IsInput site input → is_input_list (plan_at site input.relay) (list_of site input) ≡ true
unfolding no_input
input_list site input is =
    let inputs = (plan_at site input.relay).inputs in
    let low = slice_get_within inputs input.input is.parts is.found in
    some_at (λ (i : Input). i.list == list_of site input) inputs no_input input.input low (eq-eqb (list_of site input) (list_of site input) refl)

-- ---- relays that are there have whole plans

there : {A : Type 0} (xs : List A) (k : ℕ) → k < length xs → (x : A) × (slice_get xs k ≡ Some x)
there [] k low = absurd (omega (arith, low))
there (x ∷ xs) ℕ.zero low = (x, refl)
there (x ∷ xs) (ℕ.suc k) low = there xs k (omega (arith, low))

pub whole_at : (site : Site) → IsLawful site → (r : ℕ) → r < length site.relays → IsWhole (plan_at site r)
whole_at site law r low =
    let it = there site.relays r low in
    subst (λ o. IsWhole (plan_in o)) (sym it.1)
    (subst (λ (x : Relay). IsWhole x.plan) (get_or_from_slice_get site.relays r it.0 it.0 it.1) (law.plans r it.0 low))

-- one that isn't there has no occurrence
relay_in : (site : Site) (relay list number : ℕ) (is : Occurrence) (found : Option Relay) → slice_get site.relays relay ≡ found
    → slice_get (occurrences_at (plan_in found) list) number ≡ Some is → relay < length site.relays
relay_in site relay list number is None at here = absurd (no_value here)
relay_in site relay list number is (Some r) at here = slice_get_within site.relays relay r at

pub relay_of : (site : Site) (relay list number : ℕ) (is : Occurrence) → occurrence_at site relay list number ≡ Some is → relay < length site.relays
relay_of site relay list number is here = relay_in site relay list number is (slice_get site.relays relay) refl here

pub posted_used : (site : Site) → IsLawful site → (relay list number inner : ℕ) → occurrence_at site relay list number ≡ Some (occurrence.Post inner)
    → is_used (plan_at site relay) inner ≡ true
posted_used site law relay list number inner here =
    post_used (plan_at site relay) (whole_at site law relay (relay_of site relay list number (occurrence.Post inner) here)) list number inner here

list_in_plan : (site : Site) (relay list number : ℕ) (is : Occurrence) (found : Option Listed) → slice_get (plan_at site relay).lists list ≡ found
    → slice_get (occurrences (body_in found)) number ≡ Some is → list < length (plan_at site relay).lists
list_in_plan site relay list number is None at here = absurd (no_value here)
list_in_plan site relay list number is (Some l) at here = slice_get_within (plan_at site relay).lists list l at

-- a list with an occurrence is there
pub list_of_found : (site : Site) (relay list number : ℕ) (is : Occurrence) → occurrence_at site relay list number ≡ Some is
    → list < length (plan_at site relay).lists
list_of_found site relay list number is here = list_in_plan site relay list number is (slice_get (plan_at site relay).lists list) refl here

pub posted_there : (site : Site) → IsLawful site → (relay list number inner : ℕ) → occurrence_at site relay list number ≡ Some (occurrence.Post inner)
    → inner < length (plan_at site relay).lists
posted_there site law relay list number inner here =
    post_there (plan_at site relay) (whole_at site law relay (relay_of site relay list number (occurrence.Post inner) here)) list number inner here
