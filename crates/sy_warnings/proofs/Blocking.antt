-- How the list of actions grows that hold up protected messages.
use Rattle.std.proofs.Common.{◌≡◌, ℕ, ◌<◌, ◌≤◌, ◌+◌, List, [], ◌∷◌, ◌++◌, length, map, get_or, Option, Some, None, refl, sym, ap, subst, ◌∙◌, arith, inl, inr}
use Rattle.std.proofs.lemmas.List.{map-append}
use Rattle.std.specs.Prelude.{Contains, ◌⊎◌, slice_get}
use Rattle.std.proofs.lemmas.Bool.{cases_eq, cases_lt}
use Rattle.std.proofs.lemmas.List.Elements.{Contains-append_left, Contains-push, Contains-push_cases}
use Rattle.std.proofs.lemmas.Option.{get_or_from_slice_get, slice_get_within}
use Rattle.sy_rules.specs.declared.lists.occurrence.Occurrence.{Occurrence}
use Rattle.sy_rules.specs.declared.lists.occurrence.Occurrence.TheVariants as occurrence
use Rattle.sy_rules.specs.PlanValue.{Listed, Plan}
use Rattle.sy_rules.specs.Whole.{IsWhole, Leads, body_in}
use Rattle.sy_rules.specs.lists.Body.{occurrences}
use Rattle.sy_site.specs.Sites.{Site, plan_at}
use Rattle.sy_site.specs.machine.Lawful.{IsLawful}
use Rattle.sy_flows.proofs.Used.{relay_of, whole_at}
use Rattle.sy_warnings.specs.declared.holders.Holder.{Holder}
use Rattle.sy_warnings.specs.declared.holders.Holding.{Holding}
use Rattle.sy_warnings.specs.declared.holders.Holding.TheVariants as holding
use Rattle.sy_warnings.specs.Holders.{AreHolders, Holds, says}
use Rattle.sy_warnings.specs.internal.Holders.{Adds, AreHoldersBelow, Says}

no_value : {A : Type 0} {x : A} → None ≡ Some x → ⊥
no_value e = cc

abbrev ActionIsThere : Plan → Occurrence → Type 0
ActionIsThere plan (occurrence.Run action) = action < length plan.actions
ActionIsThere plan (occurrence.Post list) = Unit {0}

-- ---- one more

pub none_added : (site : Site) (relay action : ℕ) (how : Holding) (found : List Holder) → (Holds site relay action how → ⊥)
    → Adds site relay action how found found
none_added site relay action how found none = record {
  kept = λ r a h is. is;
  has = λ holds. absurd (none holds);
  only = λ r a h is. inl is;
}

pub one_added : (site : Site) (relay action : ℕ) (how : Holding) (found : List Holder) (holder : Holder) → says holder ≡ (relay, action, how)
    → Holds site relay action how → Adds site relay action how found (found ++ holder ∷ [])
one_added site relay action how found holder is holds = record {
  kept = λ r a h there. subst (λ l. Contains l (r, a, h)) (sym whole) (Contains-append_left (map says found) (says holder ∷ []) (r, a, h) there);
  has = λ it. subst (λ l. Contains l (relay, action, how)) (sym whole)
      (subst (Contains (map says found ++ says holder ∷ [])) is (Contains-push (map says found) (says holder)));
  only = λ r a h there. elim (Contains-push_cases (map says found) (says holder) (r, a, h) (subst (λ l. Contains l (r, a, h)) whole there)) [
    | inl before ↦ inl before
    | inr here ↦ inr (subst (λ (p : ℕ × ℕ × Holding). Holds site p.0 p.1 p.2) (sym is ∙ here) holds)
  ];
}
  where
    whole : map says (found ++ holder ∷ []) ≡ map says found ++ says holder ∷ []
    whole = map-append says found (holder ∷ [])

-- ---- action by action, and relay by relay

pub action_done : (site : Site) (relay action : ℕ) (old mid new : List Holder) → Adds site relay action holding.SharedWorker old mid
    → Adds site relay action holding.Bottleneck mid new → AreHoldersBelow site relay action old → AreHoldersBelow site relay (action + 1) new
action_done site relay action old mid new first second are = record {
  sound = λ r a h is. elim (second.only r a h is) [
    | inl before ↦ elim (first.only r a h before) [
      | inl had ↦ are.sound r a h had
      | inr holds ↦ holds
    ]
    | inr holds ↦ holds
  ];
  whole = λ r a h low holds. elim low [
    | inl earlier ↦ second.kept r a h (first.kept r a h (are.whole r a h (inl earlier) holds))
    | inr here ↦
        let low_action = here.1 in
        elim (cases_eq a action) [
          | inl same ↦
              subst (λ k. Says new k a h) (sym here.0)
              (subst (λ k. Says new relay k h) (sym same)
              (has h (subst (λ k. Holds site relay k h) same (subst (λ k. Holds site k a h) here.0 holds))))
          | inr apart ↦
              second.kept r a h (first.kept r a h (are.whole r a h (inr (here.0, omega (arith, low_action, apart))) holds))
        ]
  ];
}
  where
    has : (h : Holding) → Holds site relay action h → Says new relay action h
    has holding.SharedWorker holds = second.kept relay action holding.SharedWorker (first.has holds)
    has holding.Bottleneck holds = second.has holds

-- an action that holds up messages is there
pub relay_done : (site : Site) (relay most : ℕ) (found : List Holder) → ((a : ℕ) (h : Holding) → Holds site relay a h → a < most)
    → AreHoldersBelow site relay most found → AreHoldersBelow site (relay + 1) 0 found
relay_done site relay most found few are = record {
  sound = are.sound;
  whole = λ r a h low holds. elim low [
    | inl earlier ↦ elim (cases_eq r relay) [
      | inl same ↦ are.whole r a h (inr (same, few a h (subst (λ k. Holds site k a h) same holds))) holds
      | inr apart ↦ are.whole r a h (inl (omega (arith, earlier, apart))) holds
    ]
    | inr here ↦ let none = here.1 in absurd (omega (arith, none))
  ];
}

pub none_held : (site : Site) → AreHoldersBelow site 0 0 []
none_held site = record {
  sound = λ r a h is. (let low = is.1 in absurd (omega (arith, low)));
  whole = λ r a h low holds. elim low [
    | inl earlier ↦ absurd (omega (arith, earlier))
    | inr here ↦ let none = here.1 in absurd (omega (arith, none))
  ];
}

pub all_held : (site : Site) (most : ℕ) (found : List Holder) → ((r a : ℕ) (h : Holding) → Holds site r a h → r < most)
    → AreHoldersBelow site most 0 found → AreHolders site found
all_held site most found few are r a h = (λ is. are.sound r a h is, λ holds. are.whole r a h (inl (few r a h holds)) holds)

-- ---- what holds up messages, is there

leads_in : (plan : Plan) → IsWhole plan → (list : ℕ) (found : Option Listed) → slice_get plan.lists list ≡ found → (number : ℕ) (is : Occurrence)
    → slice_get (occurrences (body_in found)) number ≡ Some is → ActionIsThere plan is
leads_in plan whole list None at number is here = absurd (no_value here)
leads_in plan whole list (Some l) at number is here =
    let low = slice_get_within plan.lists list l at in
    let each = subst (λ (x : Listed). (k : ℕ) (d : Occurrence) → k < length (occurrences x.body) → Leads plan (get_or (occurrences x.body) k d))
    (get_or_from_slice_get plan.lists list l l at) (whole.occurrences_lead list l low) in
    there_of is (subst (Leads plan) (get_or_from_slice_get (occurrences l.body) number is is here)
    (each number is (slice_get_within (occurrences l.body) number is here)))
  where
    there_of : (o : Occurrence) → Leads plan o → ActionIsThere plan o
    there_of (occurrence.Run action) leads = leads
    there_of (occurrence.Post to) leads = tt

pub held_at : (site : Site) → IsLawful site → (r a : ℕ) (h : Holding) → Holds site r a h → r < length site.relays
held_at site law r a holding.SharedWorker it = relay_of site r it.list it.number (occurrence.Run a) it.executed.does.found
held_at site law r a holding.Bottleneck it = relay_of site r it.list it.number (occurrence.Run a) it.does.found

pub held_there : (site : Site) → IsLawful site → (r a : ℕ) (h : Holding) → Holds site r a h → a < length (plan_at site r).actions
held_there site law r a holding.SharedWorker it = slice_get_within (plan_at site r).actions a it.waits.parts it.waits.found
held_there site law r a holding.Bottleneck it =
    let plan = plan_at site r in
    let low = relay_of site r it.list it.number (occurrence.Run a) it.does.found in
    leads_in plan (whole_at site law r low) it.list (slice_get plan.lists it.list) refl it.number (occurrence.Run a) it.does.found
