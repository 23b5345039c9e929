-- Numbers that fall along waits: they exclude circles, and a test of each list by itself finds them.
use Rattle.std.proofs.Common.{◌≡◌, ℕ, ◌<◌, length, refl, sym, arith, ◌∙◌, inl, inr, Option, Some, None}
use Rattle.std.specs.Prelude.{slice_get}
use Rattle.std.proofs.lemmas.Option.{slice_get_cases}
use Rattle.sy_wire.specs.declared.class.Class.{Class}
use Rattle.sy_rules.specs.declared.lists.occurrence.Occurrence.{Occurrence}
use Rattle.sy_rules.specs.declared.lists.occurrence.Occurrence.TheVariants as occurrence
use Rattle.sy_rules.specs.PlanValue.{Plan, Listed}
use Rattle.sy_rules.specs.lists.Body.{occurrences}
use Rattle.sy_rules.specs.Whole.{IsWhole, body_in}
use Rattle.sy_board.specs.relay.Plans.{occurrences_at}
use Rattle.sy_board.specs.relay.Spares.{MayDo, Scope, own, posted}
use Rattle.sy_site.specs.declared.site.SiteInput.{SiteInput}
use Rattle.sy_site.specs.Sites.{Site, plan_at, spares_at}
use Rattle.sy_site.specs.machine.Reach.{Follows}
use Rattle.sy_site.specs.machine.Lawful.{IsInput, IsLawful}
use Rattle.sy_flowing.specs.Flowing.{AreHeights, AreListsLeft, GoesOn, IsFlowing, IsJam, IsRound, MayFollow, SiteList, SiteQueue, WaitsOn, by_forward, by_post, forwards, goes_more, goes_once, more, once, posts}
use Rattle.sy_flowing.specs.Heights.{AreFitNumbers, FallsBy, IsUsed}
use Rattle.sy_flowing.proofs.steps.Measure.{is_there}
use Rattle.sy_flowing.proofs.steps.PlanFacts.{leads_at}

-- ---- circles

falls_on : (site : Site) (height : SiteQueue → ℕ) → AreHeights site height → (from to : SiteQueue) → WaitsOn site from to → height to < height from
falls_on site height falls from to (once waits) = falls from to waits
falls_on site height falls from to (more {mid = mid} waits later) =
    let a = falls from mid waits in
    let b = falls_on site height falls mid to later in
    omega (arith, a, b)

pub no_jam : (site : Site) → IsFlowing site → (queue : SiteQueue) → IsJam site queue → ⊥
no_jam site flow queue jam = let l = falls_on site flow.height flow.falls queue queue jam.circle in omega (arith, l)

left_falls_on : (site : Site) (left : Class → SiteList → ℕ) → AreListsLeft site left → (class : Class) (from to : SiteList) → GoesOn site class from to
    → left class to < left class from
left_falls_on site left ends class from to (goes_once goes) = ends class from to goes
left_falls_on site left ends class from to (goes_more {mid = mid} goes on) =
    let a = ends class from mid goes in
    let b = left_falls_on site left ends class mid to on in
    omega (arith, a, b)

pub no_round : (site : Site) → IsFlowing site → (class : Class) (list : SiteList) → IsRound site class list → ⊥
no_round site flow class list round = let l = left_falls_on site flow.left flow.ends class list list round.circle in omega (arith, l)

-- ---- lists one by one

used_list : (site : Site) (r i : ℕ) (class : Class) → IsWhole (plan_at site r) → i < length (plan_at site r).inputs → (list : ℕ)
    → Follows site class Scope.Every (record { relay = r; input = i }) list → IsUsed (plan_at site r) list
used_list site r i class whole l list own = inr (i, l, refl)
used_list site r i class whole l list (posted {list = before} number follows does) =
    inl (leads_at (plan_at site r) whole before number (occurrence.Post list) does.found)

beyond_none : (found : Option Listed) → found ≡ None → (number : ℕ) (is : Occurrence) → slice_get (occurrences (body_in found)) number ≡ Some is → ⊥
beyond_none None e number is f = absurd (cc)
beyond_none (Some l) e number is f = absurd (cc)

pub list_there : (plan : Plan) (list number : ℕ) (is : Occurrence) → slice_get (occurrences_at plan list) number ≡ Some is → list < length plan.lists
list_there plan list number is f = elim (slice_get_cases plan.lists list).1 [
  | inl h ↦ h.1
  | inr h ↦ absurd (beyond_none (slice_get plan.lists list) h.1 number is f)
]

pub input_within : (site : Site) (input : SiteInput) → IsInput site input → input.input < length (plan_at site input.relay).inputs
input_within site input is = elim (slice_get_cases (plan_at site input.relay).inputs input.input).1 [
  | inl h ↦ h.1
  | inr h ↦ (let g : None ≡ Some is.parts = sym h.1 ∙ is.found in absurd (cc))
]

module _ (site : Site) (law : IsLawful site) (height : SiteQueue → ℕ) (left : Class → SiteList → ℕ) (fit : AreFitNumbers site height left) where
  -- what an occurrence of a list that is followed does
  fit_at : (class : Class) (relay list number : ℕ) (is : Occurrence) → MayFollow site class relay list
      → MayDo (plan_at site relay) (spares_at site relay) class Scope.Every list number is → FallsBy site height (left class) relay list is
  fit_at class relay list number is followed does =
      let l = input_within site (record { relay = relay; input = followed.0 }) followed.1 in
      let there = is_there site law relay (λ (p : Plan). length p.inputs) refl (omega (arith, l)) in
      fit class relay list number is there.within (list_there (plan_at site relay) list number is does.found)
      (used_list site relay followed.0 class there.whole l list followed.2) does

  fit_falls : AreHeights site height
  fit_falls from to (posts class relay list number to_list followed does holds) = (fit_at class relay list number (occurrence.Post to_list) followed does).0 holds
  fit_falls from to (forwards class relay list number action next followed does leads) =
      (fit_at class relay list number (occurrence.Run action) followed does next leads).0

  fit_ends : AreListsLeft site left
  fit_ends class from to (by_post relay list number to_list followed does) = (fit_at class relay list number (occurrence.Post to_list) followed does).1
  fit_ends class from to (by_forward relay list number action next followed does leads) =
      (fit_at class relay list number (occurrence.Run action) followed does next leads).1

  pub fit_flows : IsFlowing site
  fit_flows = record { height = height; falls = fit_falls; left = left; ends = fit_ends }
