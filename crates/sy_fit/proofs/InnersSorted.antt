-- Lists that posts lead to, in the order of the site.
use Rattle.std.proofs.Common.{◌≡◌, ℕ, ◌<◌, ◌≤◌, ◌+◌, true, List, [], ◌∷◌, ◌++◌, length, take, get_or, refl, sym, ap, subst, ◌∙◌, arith, inl, inr}
use Rattle.std.specs.Prelude.{Contains, ◌⊎◌, ◌↔◌}
use Rattle.std.proofs.lemmas.Bool.{cases_eq}
use Rattle.std.proofs.lemmas.List.{take_all, take_more}
use Rattle.std.proofs.lemmas.List.Elements.{Contains-get_or, Contains-push_cases}
use Rattle.sy_wire.specs.declared.class.Class.{Class}
use Rattle.sy_board.specs.relay.Spares.{Scope}
use Rattle.sy_site.specs.declared.site.SiteInput.{SiteInput}
use Rattle.sy_site.specs.Sites.{Site, plan_at}
use Rattle.sy_site.specs.machine.Lawful.{IsInput, IsLawful}
use Rattle.sy_site.specs.machine.Reach.{PostsOn, Reach, list_of}
use Rattle.sy_flows.specs.declared.lists.InnerList.{InnerList}
use Rattle.sy_fit.specs.Fit.{ComesBefore, IsInner, ListsAll}
use Rattle.sy_fit.specs.internal.Inners.{AreInners, AreReachedOf, IsInnerBefore, IsPosted}
use Rattle.sy_fit.specs.internal.Order.{AreOf}
use Rattle.sy_flows.specs.Leads.{IsThere}
use Rattle.sy_fit.proofs.InnerLists.{last_post, on}
use Rattle.sy_flows.proofs.Led.{inner_there}
use Rattle.sy_fit.proofs.InOrder.{lists_as, lists_more, lists_none}
use Rattle.sy_flows.proofs.There.{reach_there}

-- a list that posts lead to is there
pub inner_is_there : (site : Site) → IsLawful site → (class : Class) (x : InnerList) → IsInner site class x → IsThere site x
inner_is_there site law class x is =
    let last = last_post site class x.relay (list_of site is.input) x.list is.posted in
    inner_there site law x.relay last.0 last.1 x.list last.2

one_later : (x : InnerList) (relay list : ℕ) → ComesBefore x (on relay list) → ComesBefore x (on relay (list + 1))
one_later x relay list (inl low) = inl low
one_later x relay list (inr (same, low)) = inr (same, omega (arith, low))

before_or_here : (x : InnerList) (relay list : ℕ) → ComesBefore x (on relay (list + 1)) → ComesBefore x (on relay list) ⊎ (on relay list ≡ x)
before_or_here x relay list (inl low) = inl (inl low)
before_or_here x relay list (inr (same, low)) =
    elim (cases_eq x.list list) [
      | inl here ↦ inr (λ i. record { relay = sym same i; list = sym here i })
      | inr apart ↦ inl (inr (same, omega (arith, low, apart)))
    ]

pub inners_first : (site : Site) (class : Class) → AreInners site class 0 0 []
inners_first site class = lists_none (IsInnerBefore site class 0 0) ComesBefore (λ x is. none x is.before)
  where
    none : (x : InnerList) → ComesBefore x (on 0 0) → ⊥
    none x (inl low) = omega (arith, low)
    none x (inr (same, low)) = omega (arith, low)

module _ (site : Site) (class : Class) (relay list : ℕ) (inners : List InnerList) (are : AreInners site class relay list inners) where
  later : (x : InnerList) → IsInnerBefore site class relay list x → IsInnerBefore site class relay (list + 1) x
  later x is = record { is = is.is; before = one_later x relay list is.before }

  pub inner_skip : (IsInner site class (on relay list) → ⊥) → AreInners site class relay (list + 1) inners
  inner_skip none = lists_as (IsInnerBefore site class relay list) (IsInnerBefore site class relay (list + 1)) ComesBefore inners later
      (λ x is. elim (before_or_here x relay list is.before) [
        | inl before ↦ record { is = is.is; before = before }
        | inr here ↦ absurd (none (subst (IsInner site class) (sym here) is.is))
      ])
      are

  pub inner_push : IsInner site class (on relay list) → AreInners site class relay (list + 1) (inners ++ on relay list ∷ [])
  inner_push is = lists_more (IsInnerBefore site class relay list) (IsInnerBefore site class relay (list + 1)) ComesBefore inners (on relay list)
      (λ x b. b.before) later (record { is = is; before = inr (refl, omega arith) })
      (λ x b. elim (before_or_here x relay list b.before) [
        | inl before ↦ inl (record { is = b.is; before = before })
        | inr here ↦ inr here
      ])
      are

-- all lists of a relay were gone through
pub inners_relay : (site : Site) → IsLawful site → (class : Class) (relay : ℕ) (inners : List InnerList)
    → AreInners site class relay (length (plan_at site relay).lists) inners → AreInners site class (relay + 1) 0 inners
inners_relay site law class relay inners are =
    lists_as (IsInnerBefore site class relay (length (plan_at site relay).lists)) (IsInnerBefore site class (relay + 1) 0) ComesBefore inners
    (λ x b. record { is = b.is; before = inl (lower x b.before) })
    (λ x b. record { is = b.is; before = back x b.is b.before }) are
  where
    lower : (x : InnerList) → ComesBefore x (on relay (length (plan_at site relay).lists)) → x.relay < relay + 1
    lower x (inl low) = omega (arith, low)
    lower x (inr (same, low)) = omega (arith, same)

    back : (x : InnerList) → IsInner site class x → ComesBefore x (on (relay + 1) 0) → ComesBefore x (on relay (length (plan_at site relay).lists))
    back x is (inr (same, low)) = absurd (omega (arith, low))
    back x is (inl low) = elim (cases_eq x.relay relay) [
      | inl same ↦
          inr (same, subst (λ r. x.list < length (plan_at site r).lists) same (inner_is_there site law class x is).list)
      | inr apart ↦ inl (omega (arith, low, apart))
    ]

pub inners_all : (site : Site) → IsLawful site → (class : Class) (relay : ℕ) (inners : List InnerList) → length site.relays ≤ relay
    → AreInners site class relay 0 inners → ListsAll (IsInner site class) ComesBefore inners
inners_all site law class relay inners all are =
    lists_as (IsInnerBefore site class relay 0) (IsInner site class) ComesBefore inners (λ x b. b.is)
    (λ x is. record {
      is = is;
      before = inl (let low = (inner_is_there site law class x is).relay in omega (arith, low, all));
    }) are

-- ---- from the inputs of a relay

module _ (site : Site) (class : Class) (relay : ℕ) (own : List SiteInput) (are : AreReachedOf site class relay own) (list : ℕ) where
  pub posted_inner : IsPosted site class own list → IsInner site class (on relay list)
  posted_inner (x, there, posts) =
      let is = (are x).0 there in
      record { input = x; at = is.1; reached = is.0; posted = subst (λ r. PostsOn site class Scope.Firm r (list_of site x) list) is.1 posts }

  pub inner_posted : IsInner site class (on relay list) → IsPosted site class own list
  inner_posted is = (
    is.input,
    (are is.input).1 (is.reached, is.at),
    subst (λ r. PostsOn site class Scope.Firm r (list_of site is.input) list) (sym is.at) is.posted,
  )

pub reached_of : (site : Site) (class : Class) (firm : List SiteInput) (relay : ℕ) (own : List SiteInput)
    → ((x : SiteInput) → Contains firm x ↔ Reach site class Scope.Firm x) → AreOf firm relay own → AreReachedOf site class relay own
reached_of site class firm relay own is_firm of x = (
  λ there. (let o = (of x).0 there in ((is_firm x).0 o.0, o.1)),
  λ is. (of x).1 ((is_firm x).1 is.0, is.1),
)

pub own_there : (site : Site) → IsLawful site → (class : Class) (relay : ℕ) (own : List SiteInput) → AreReachedOf site class relay own
    → (x : SiteInput) → Contains own x → IsInput site x
own_there site law class relay own are x there = reach_there site law class Scope.Firm x ((are x).0 there).0

-- ---- input after input

module _ (site : Site) (class : Class) (inputs : List SiteInput) (list : ℕ) where
  pub none_posted : IsPosted site class (take 0 inputs) list → ⊥
  none_posted (x, (k, low, is), posts) = absurd (omega (arith, low))

  pub not_posted : (k : ℕ) (d : SiteInput) → k < length inputs
      → (PostsOn site class Scope.Firm (get_or inputs k d).relay (list_of site (get_or inputs k d)) list → ⊥)
      → (IsPosted site class (take k inputs) list → ⊥) → IsPosted site class (take (k + 1) inputs) list → ⊥
  not_posted k d low none before (x, there, posts) =
      elim (Contains-push_cases (take k inputs) (get_or inputs k d) x (subst (λ l. Contains l x) (take_more inputs k d low) there)) [
        | inl earlier ↦ before (x, earlier, posts)
        | inr last ↦ none (subst (λ (z : SiteInput). PostsOn site class Scope.Firm z.relay (list_of site z) list) (sym last) posts)
      ]

  pub posted_here : (k : ℕ) (d : SiteInput) → k < length inputs
      → PostsOn site class Scope.Firm (get_or inputs k d).relay (list_of site (get_or inputs k d)) list → IsPosted site class inputs list
  posted_here k d low posts = (get_or inputs k d, Contains-get_or inputs k d low, posts)

  pub never_posted : (k : ℕ) → length inputs ≤ k → (IsPosted site class (take k inputs) list → ⊥) → IsPosted site class inputs list → ⊥
  never_posted k all none is = none (subst (λ l. IsPosted site class l list) (sym (take_all k inputs all)) is)
