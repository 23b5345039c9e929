-- Paths, occurrence by occurrence, from list to list.
use Rattle.std.proofs.Common.{[], ◌≡◌, ℕ, suc, ◌<◌, ◌≤◌, ◌+◌, ◌^◌, List, ◌∷◌, drop, drop-cons, length, get_or, Option, Some, None, sym, ap, subst, refl, ◌∙◌, arith, inl, inr}
use Rattle.std.specs.Prelude.{option_map}
use Rattle.std.specs.Int.{bit_at}
use Rattle.std.proofs.lemmas.List.{drop_all}
use Rattle.std.proofs.lemmas.Nat.Bits.{bit_at_above}
use Rattle.sy_wire.specs.declared.class.Class.{Class}
use Rattle.sy_rules.specs.declared.lists.occurrence.Occurrence.{Occurrence}
use Rattle.sy_rules.specs.declared.lists.occurrence.Occurrence.TheVariants as occurrence
use Rattle.sy_site.specs.declared.site.SiteAction.{SiteAction}
use Rattle.sy_site.specs.declared.site.SiteInput.{SiteInput}
use Rattle.sy_site.specs.Sites.{Site, target}
use Rattle.sy_site.specs.machine.Lawful.{IsLawful}
use Rattle.sy_site.specs.machine.Reach.{MustDo, leads_on}
use Rattle.sy_flows.specs.declared.flows.executed.Executed.TheVariants as executed
use Rattle.sy_flows.specs.declared.lists.InnerList.{InnerList}
use Rattle.sy_fit.specs.Fit.{IsPath}
use Rattle.sy_flows.specs.Leads.{IsThere, MustLead, lead_of, list_at}
use Rattle.sy_flows.specs.Flows.{IsSet}
use Rattle.sy_fit.specs.internal.Path.{IsMustLead}
use Rattle.sy_flows.specs.Leads as spec
use Rattle.sy_flows.proofs.Led.{it_leads, lead_so, must_lead_there, one_lead}

no_value : {A : Type 0} {x : A} → None ≡ Some x → ⊥
no_value e = cc

pub one_value : {A : Type 0} {x y : A} → Some x ≡ Some y → x ≡ y
one_value e = cc

-- ---- one step of a path
abbrev pub IsPathAt : Site → Class → SiteAction → InnerList → List ℕ → Type 0
IsPathAt site class archive at path = IsPath site class archive at.relay at.list path

module _ (site : Site) (class : Class) (archive : SiteAction) (at : InnerList) (number : ℕ) (later : List ℕ) where
  by_target : (action : ℕ) (to : InnerList) → MustDo site class at.relay at.list number (occurrence.Run action) → (found : Option SiteInput)
      → target site (record { relay = at.relay; action = action }) ≡ found → option_map (list_at site) found ≡ Some to
      → IsPathAt site class archive to later → IsPathAt site class archive at (number ∷ later)
  by_target action to does None is e path = absurd (no_value e)
  by_target action to does (Some input) is e path = inr (
    input,
    record { action = action; does = does; leads = is },
    subst (λ x. IsPathAt site class archive x later) (sym (one_value e)) path,
  )

  step_by : (is : Occurrence) (to : InnerList) → MustDo site class at.relay at.list number is → spec.leads_on site at.relay is ≡ Some to
      → IsPathAt site class archive to later → IsPathAt site class archive at (number ∷ later)
  step_by (occurrence.Post inner) to does e path = inl (inner, does, subst (λ x. IsPathAt site class archive x later) (sym (one_value e)) path)
  step_by (occurrence.Run action) to does e path =
      by_target action to does (target site (record { relay = at.relay; action = action })) refl e path

  pub path_step : (to : InnerList) → MustLead site class at number to → IsPathAt site class archive to later → IsPathAt site class archive at (number ∷ later)
  path_step to must path = step_by must.is to must.does must.leads path

  pub path_first : IsPathAt site class archive at (number ∷ later)
      → (to : InnerList) × MustLead site class at number to × IsPathAt site class archive to later
  path_first (inl (inner, does, path)) =
      (record { relay = at.relay; list = inner }, record { is = occurrence.Post inner; does = does; leads = refl }, path)
  path_first (inr (input, goes, path)) = (
    list_at site input,
    record { is = occurrence.Run goes.action; does = goes.does; leads = ap (option_map (list_at site)) goes.leads },
    path,
  )

-- ---- where what is left of a path begins
pub record Goes (site : Site) (class : Class) (archive : SiteAction) (from : InnerList) (all : List ℕ) (at : InnerList) (rest : List ℕ) : Type 0 where
  pub there : IsThere site at
  pub whole : IsPath site class archive at.relay at.list rest → IsPath site class archive from.relay from.list all
  pub left : IsPath site class archive from.relay from.list all → IsPath site class archive at.relay at.list rest

pub goes_first : (site : Site) (class : Class) (archive : SiteAction) (from : InnerList) (all : List ℕ) → IsThere site from
    → Goes site class archive from all from all
goes_first site class archive from all there = record { there = there; whole = λ p. p; left = λ p. p }

goes_on : (site : Site) → IsLawful site → (class : Class) (archive : SiteAction) (from : InnerList) (all : List ℕ) (at : InnerList) (number : ℕ)
    (rest : List ℕ) (to : InnerList) → MustLead site class at number to → Goes site class archive from all at (number ∷ rest)
    → Goes site class archive from all to rest
goes_on site law class archive from all at number rest to is goes = record {
  there = must_lead_there site law class at number to is;
  whole = λ p. goes.whole (path_step site class archive at number rest to is p);
  left = λ p. (let h = path_first site class archive at number rest (goes.left p) in
      subst (λ z. IsPathAt site class archive z rest) (one_lead site class at number h.0 to h.1 is) h.2);
}

goes_nowhere : (site : Site) (class : Class) (archive : SiteAction) (from : InnerList) (all : List ℕ) (at : InnerList) (number : ℕ) (rest : List ℕ)
    → IsMustLead site class at number None → Goes site class archive from all at (number ∷ rest)
    → IsPath site class archive from.relay from.list all → ⊥
goes_nowhere site class archive from all at number rest none goes p =
    let h = path_first site class archive at number rest (goes.left p) in none h.0 h.1

-- what is left behind a place of the list
pub goes_on_at : (site : Site) → IsLawful site → (class : Class) (archive : SiteAction) (from : InnerList) (all : List ℕ) (at : InnerList) (k : ℕ)
    (to : InnerList) → k < length all → IsMustLead site class at (get_or all k 0) (Some to) → Goes site class archive from all at (drop k all)
    → Goes site class archive from all to (drop (k + 1) all)
goes_on_at site law class archive from all at k to low is goes =
    let next : suc k ≡ k + 1 = omega arith in
    subst (λ n. Goes site class archive from all to (drop n all)) next
    (goes_on site law class archive from all at (get_or all k 0) (drop (suc k) all) to is
    (subst (Goes site class archive from all at) (drop-cons all k 0 low) goes))

pub goes_nowhere_at : (site : Site) (class : Class) (archive : SiteAction) (from : InnerList) (all : List ℕ) (at : InnerList) (k : ℕ)
    → k < length all → IsMustLead site class at (get_or all k 0) None → Goes site class archive from all at (drop k all)
    → IsPath site class archive from.relay from.list all → ⊥
goes_nowhere_at site class archive from all at k low none goes =
    goes_nowhere site class archive from all at (get_or all k 0) (drop (suc k) all) none
    (subst (Goes site class archive from all at) (drop-cons all k 0 low) goes)

pub goes_to_end : (site : Site) (class : Class) (archive : SiteAction) (from : InnerList) (all : List ℕ) (at : InnerList) (k : ℕ)
    → length all ≤ k → Goes site class archive from all at (drop k all) → Goes site class archive from all at []
goes_to_end site class archive from all at k end goes = subst (Goes site class archive from all at) (drop_all k all end) goes

-- ---- an occurrence that must be executed
module _ (site : Site) (class : Class) (at : InnerList) (must number : ℕ) (set : IsSet site class executed.Must at.relay at.list must) where
  pub beyond : must < 2 ^ 64 → 64 ≤ number → IsMustLead site class at number None
  beyond fits high to is =
      let above = bit_at_above must 64 number fits high in
      let bit = set.whole number is.is is.does in
      omega (arith, above, bit)

  pub must_go : bit_at must number ≡ 1 → (found : Option InnerList) → lead_of site at number ≡ found → IsMustLead site class at number found
  must_go member (Some to) e = it_leads site class at number (λ is here. set.sound number is member here) to e
  must_go member None e = λ to leads. no_value (sym e ∙ lead_so site class at number to leads)

  pub must_not : (bit_at must number ≡ 1 → ⊥) → IsMustLead site class at number None
  must_not none to is = none (set.whole number is.is is.does)
