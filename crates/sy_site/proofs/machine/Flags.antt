-- What is taken from outside and from links, that copies stay as they are, and that the list of an input is no action's own.
use Rattle.std.proofs.Common.{◌≡◌, ℕ, ◌≤◌, true, false, if◌then◌else◌, List, [], ◌∷◌, ◌++◌, Some, None, length, refl, sym, subst, ap, arith, ◌∙◌, get_or}
use Rattle.std.specs.Prelude.{slice_get, nat_le}
use Rattle.std.proofs.lemmas.Bool.Decides.{nat_tests}
use Rattle.std.specs.List.{All}
use Rattle.sy_rules.specs.declared.parts.Input.{Input}
use Rattle.sy_rules.specs.PlanValue.{Plan}
use Rattle.sy_rules.specs.Whole.{IsWhole, body_at, owner_at, runs_alone}
use Rattle.sy_board.specs.relay.Plans.{input_at}
use Rattle.sy_board.specs.relay.Spares.{is_spare_owner}
use Rattle.sy_board.specs.relay.Steps.{Event}
use Rattle.sy_board.proofs.relay.Bounds.{all_first, all_later}
use Rattle.sy_site.specs.Sites.{Relay, Site, SiteInput, is_spare_list, plan_at, plan_in, spares_at}
use Rattle.sy_site.specs.machine.Lawful.{IsLawful}
use Rattle.sy_site.specs.machine.Reach.{list_of}
use Rattle.sy_site.specs.machine.States.{Copy, SiteState, copy_of_new, off_link, taken_by, with_passed}
use Rattle.sy_site.specs.machine.Steps.{SiteEvent, SiteStep, TakesCopy}
use Rattle.sy_site.proofs.machine.Naming.{relay_copies}
use Rattle.sy_site.proofs.machine.Spread.{get_last, get_more, some_same}

-- ---- what is taken

-- it stands behind all copies that were there
pub taken : (site : Site) (s : SiteState) (to : SiteInput) (h : ℕ) (c : Copy) (new : SiteState) → TakesCopy site s to h c new → (x : Copy)
    → slice_get new.copies (length s.copies) ≡ Some x → taken_by to.relay c ≡ x
taken site s to h c new st x is =
    let mid : SiteState = record s { copies = s.copies ++ taken_by to.relay c ∷ [] } in
    let here : slice_get (s.copies ++ taken_by to.relay c ∷ []) (length s.copies) ≡ Some x = subst (λ z. slice_get z (length s.copies) ≡ Some x)
    (relay_copies site mid to.relay (Event.Take to.input h st.node) new st.step) is in
    some_same (sym (get_last s.copies (taken_by to.relay c)) ∙ here)

-- ---- what was there

still_there : (site : Site) (s : SiteState) (to : SiteInput) (h : ℕ) (c : Copy) (new : SiteState) → TakesCopy site s to h c new → (t : ℕ) (x : Copy)
    → slice_get s.copies t ≡ Some x → slice_get new.copies t ≡ Some x
still_there site s to h c new st t x is =
    let mid : SiteState = record s { copies = s.copies ++ taken_by to.relay c ∷ [] } in
    subst (λ z. slice_get z t ≡ Some x) (sym (relay_copies site mid to.relay (Event.Take to.input h st.node) new st.step))
    (get_more s.copies t x (taken_by to.relay c) is)

pub copy_stays : (site : Site) (old new : SiteState) (e : SiteEvent) → SiteStep site old e new → (t : ℕ) (x : Copy)
    → slice_get old.copies t ≡ Some x → slice_get new.copies t ≡ Some x
copy_stays site old new (SiteEvent.TakeNew to h m) st t x is =
    still_there site (record old { arrivals = old.arrivals ++ record { message = m; origin = to } ∷ [] }) to h (copy_of_new old to m) new st t x is
copy_stays site old new (SiteEvent.TakeFrom to h link place) st t x is =
    still_there site (record old { passed = with_passed old.passed link (st.before ++ st.behind) }) to h (off_link site link st.copy) new st.takes t x is
copy_stays site old new (SiteEvent.Inside r event) st t x is =
    subst (λ z. slice_get z t ≡ Some x) (sym (relay_copies site old r event new st.1)) is

-- ---- inputs

low : (most : ℕ) (inputs : List Input) (k : ℕ) (d : Input) → d.list ≤ most → All (λ i. i.list ≤ most) inputs → (get_or inputs k d).list ≤ most
low most [] k d l all = l
low most (x ∷ inputs) ℕ.zero d l all = all_first (λ (i : Input). i.list ≤ most) x inputs all
low most (x ∷ inputs) (ℕ.suc k) d l all = low most inputs k d l (all_later (λ (i : Input). i.list ≤ most) x inputs all)

reports : (a b : ℕ) → a ≤ b → nat_le a b ≡ true
reports a b l = grind (arith, nat_tests)

no_owner : (plan : Plan) → All (λ i. i.list ≤ plan.rulesets) plan.inputs → (input : ℕ) → owner_at plan (input_at plan input).list ≡ None
no_owner plan lists input =
    let list = (input_at plan input).list in
    let below : list ≤ plan.rulesets = low plan.rulesets plan.inputs input _ (omega arith) lists in
    subst (λ b. (if b then None else runs_alone (body_at plan list)) ≡ None) (sym (reports list plan.rulesets below)) refl

lists_of : (relays : List Relay) (r : ℕ) → All (λ relay. IsWhole relay.plan) relays
    → All (λ i. i.list ≤ (plan_in (slice_get relays r)).rulesets) (plan_in (slice_get relays r)).inputs
lists_of [] r all = λ k d l. absurd (omega (arith, l))
lists_of (x ∷ relays) ℕ.zero all = (all_first (λ (relay : Relay). IsWhole relay.plan) x relays all).input_lists
lists_of (x ∷ relays) (ℕ.suc r) all = lists_of relays r (all_later (λ (relay : Relay). IsWhole relay.plan) x relays all)

pub no_own_list : (site : Site) → IsLawful site → (input : SiteInput) → is_spare_list site input.relay (list_of site input) ≡ false
no_own_list site law input =
    ap (is_spare_owner (spares_at site input.relay)) (no_owner (plan_at site input.relay) (lists_of site.relays input.relay law.plans) input.input)
