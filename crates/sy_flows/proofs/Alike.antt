-- Classes that execute the same of each list: what they reach by that is the same.
use Rattle.std.proofs.Common.{[], ◌≡◌, ℕ, true, ◌<◌, List, ◌∷◌, length, Option, Some, None, refl, sym, ap, subst, ◌∙◌, arith}
use Rattle.std.specs.Prelude.{Contains, slice_get, unwrap_or}
use Rattle.std.proofs.lemmas.List.{ext_get_or}
use Rattle.std.proofs.lemmas.Option.{slice_get_within, unwrap_or-slice_get}
use Rattle.sy_wire.specs.declared.class.Class.{Class}
use Rattle.sy_rules.specs.declared.lists.occurrence.Occurrence.{Occurrence}
use Rattle.sy_rules.specs.declared.lists.occurrence.Occurrence.TheVariants as occurrence
use Rattle.sy_board.specs.relay.Spares.{Scope, more, once}
use Rattle.sy_site.specs.declared.site.SiteInput.{SiteInput}
use Rattle.sy_site.specs.Sites.{Site, plan_at}
use Rattle.sy_site.specs.machine.Lawful.{IsInput, IsLawful}
use Rattle.sy_site.specs.machine.Reach.{MayDo, PostsOn, Reach, Reaches, entry, forwards, list_of, occurrence_at, onward, posts}
use Rattle.sy_flows.specs.declared.flows.executed.Executed.{Executed}
use Rattle.sy_flows.specs.declared.flows.executed.Executed.TheVariants as executed
use Rattle.sy_flows.specs.declared.flows.Hop.{Hop}
use Rattle.sy_flows.specs.declared.flows.ListFlows.{ListFlows}
use Rattle.sy_flows.specs.declared.flows.RelayFlows.{RelayFlows}
use Rattle.sy_flows.specs.declared.flows.SiteFlows.{SiteFlows}
use Rattle.sy_flows.specs.declared.flows.SiteHops.{SiteHops}
use Rattle.sy_flows.specs.declared.reach.Origin.{Origin}
use Rattle.sy_flows.specs.internal.Alike.{AreAlike}
use Rattle.sy_flows.specs.Flows.{AreEach, AreSame, AreSiteFlows, Does, IsFlow, is_used}
use Rattle.sy_flows.specs.Hops.{AreHops, AreSiteHops, Leads, LeadsBy, LeadsByPosts}
use Rattle.sy_flows.specs.Search.{IsOrigin}
use Rattle.sy_flows.proofs.Gone.{stands_in}
use Rattle.sy_flows.proofs.There.{reach_there}
use Rattle.sy_flows.proofs.Used.{input_list, input_used, list_of_found, posted_used, relay_of}

-- ---- lists
pub one_value : {A : Type 0} {x y : A} → Some x ≡ Some y → x ≡ y
one_value e = cc

pub there : {A : Type 0} (xs : List A) (k : ℕ) → k < length xs → (x : A) × (slice_get xs k ≡ Some x)
there [] k low = absurd (omega (arith, low))
there (x ∷ xs) ℕ.zero low = (x, refl)
there (x ∷ xs) (ℕ.suc k) low = there xs k (omega (arith, low))

no_flow : ListFlows
no_flow = record { every = 0; firm = 0; must = 0 }

pub same_list : (xs ys : List ListFlows) → length xs ≡ length ys → ((k : ℕ) → k < length xs → slice_get xs k ≡ slice_get ys k) → xs ≡ ys
same_list xs ys many each =
    ext_get_or no_flow xs ys many (λ k low. sym (unwrap_or-slice_get xs k no_flow) ∙ ap (λ o. unwrap_or o no_flow) (each k low)
    ∙ unwrap_or-slice_get ys k no_flow)

-- ---- flows
-- what is kept of a list
record HasFlow (flows : SiteFlows) (relay list : ℕ) : Type 0 where
  pub lists : RelayFlows
  flow : ListFlows
  at_relay : slice_get flows.relays.items relay ≡ Some lists
  at_list : slice_get lists.lists.items list ≡ Some flow

kept : (site : Site) (class : Class) (flows : SiteFlows) → AreSiteFlows site class flows → (relay list number : ℕ) (is : Occurrence)
    → occurrence_at site relay list number ≡ Some is → HasFlow flows relay list
kept site class flows are relay list number is here =
    let low = relay_of site relay list number is here in
    let many = are.length_is in
    let lists = there flows.relays.items relay (omega (arith, low, many)) in
    let of_relay = are.each relay lists.0 lists.1 in
    let within = list_of_found site relay list number is here in
    let count = of_relay.length_is in
    let flow = there lists.0.lists.items list (omega (arith, within, count)) in
    record { lists = lists.0; flow = flow.0; at_relay = lists.1; at_list = flow.1 }

is_flow : (site : Site) (class : Class) (flows : SiteFlows) → AreSiteFlows site class flows → (relay list : ℕ) (has : HasFlow flows relay list)
    → is_used (plan_at site relay) list ≡ true → IsFlow site class relay list has.flow
is_flow site class flows are relay list has used = (are.each relay has.lists has.at_relay).each list has.flow has.at_list used

pub found_of : (site : Site) (class : Class) (which : Executed) (relay list number : ℕ) (is : Occurrence) → Does site class which relay list number is
    → occurrence_at site relay list number ≡ Some is
found_of site class executed.Every relay list number is does = does.found
found_of site class executed.Firm relay list number is does = does.found
found_of site class executed.Must relay list number is does = does.found

pub alike : (site : Site) (one other : Class) (flows : SiteFlows) → AreSiteFlows site one flows → AreSiteFlows site other flows → AreAlike site one other
alike site one other flows a b which relay list number is used = (
  λ does.
      (let here = found_of site one which relay list number is does in
      let has = kept site one flows a relay list number is here in
      (is_flow site other flows b relay list has used which).sound number is
      ((is_flow site one flows a relay list has used which).whole number is does) here),
  λ does.
      (let here = found_of site other which relay list number is does in
      let has = kept site other flows b relay list number is here in
      (is_flow site one flows a relay list has used which).sound number is
      ((is_flow site other flows b relay list has used which).whole number is does) here),
)

pub flows_as : (site : Site) (class : Class) (one other : SiteFlows) → AreSame one other → AreSiteFlows site class other → AreSiteFlows site class one
flows_as site class one other same are = record {
  length_is = same.many ∙ are.length_is;
  each = λ relay lists is.
      let low = slice_get_within one.relays.items relay lists is in
      let many = same.many in
      let it = there other.relays.items relay (omega (arith, low, many)) in
      subst (AreEach (λ list (flow : ListFlows). is_used (plan_at site relay) list ≡ true → IsFlow site class relay list flow) (length (plan_at site relay).lists))
      (sym (same.each relay lists it.0 is it.1)) (are.each relay it.0 it.1);
}

-- ---- what follows from them
module _ (site : Site) (law : IsLawful site) (one other : Class) (same : AreAlike site one other) where
  reaches_to : (which : Executed) (scope : Scope) → ((relay list number : ℕ) (is : Occurrence) → MayDo site one scope relay list number is
      → Does site one which relay list number is) → ((relay list number : ℕ) (is : Occurrence) → Does site other which relay list number is
      → MayDo site other scope relay list number is) → (relay list number : ℕ) (to : SiteInput) → is_used (plan_at site relay) list ≡ true
      → Reaches site one scope relay list number to → Reaches site other scope relay list number to
  reaches_to which scope as_does as_may relay list number to used (forwards at action does leads) =
      forwards at action
      (as_may relay list at (occurrence.Run action) ((same which relay list at (occurrence.Run action) used).0 (as_does relay list at (occurrence.Run action) does)))
      leads
  reaches_to which scope as_does as_may relay list number to used (posts at inner k does later) =
      posts at inner k
      (as_may relay list at (occurrence.Post inner) ((same which relay list at (occurrence.Post inner) used).0 (as_does relay list at (occurrence.Post inner) does)))
      (reaches_to which scope as_does as_may relay inner k to (posted_used site law relay list at inner does.found) later)

  pub leads_to : (which : Executed) (relay list number : ℕ) (to : SiteInput) → is_used (plan_at site relay) list ≡ true
      → Leads site one which relay list number to → Leads site other which relay list number to
  leads_to executed.Every relay list number to used leads =
      reaches_to executed.Every Scope.Every (λ r l n is does. does) (λ r l n is does. does) relay list number to used leads
  leads_to executed.Firm relay list number to used leads =
      reaches_to executed.Firm Scope.Firm (λ r l n is does. does) (λ r l n is does. does) relay list number to used leads
  leads_to executed.Must relay list number to used leads = record {
    action = leads.action;
    does = (same executed.Must relay list number (occurrence.Run leads.action) used).0 leads.does;
    leads = leads.leads;
  }

pub turned : (site : Site) (one other : Class) → AreAlike site one other → AreAlike site other one
turned site one other same which relay list number is used =
    let both = same which relay list number is used in (both.1, both.0)

pub list_used : (site : Site) (x : SiteInput) → IsInput site x → is_used (plan_at site x.relay) (list_of site x) ≡ true
list_used site x is = input_used (plan_at site x.relay) (list_of site x) (input_list site x is)

module _ (site : Site) (law : IsLawful site) (one other : Class) (same : AreAlike site one other) where
  pub leads_by : (which : Executed) (from : SiteInput) (number : ℕ) (to : SiteInput) → IsInput site from → LeadsBy site one which from number to
      → LeadsBy site other which from number to
  leads_by which from number to is leads = leads_to site law one other same which from.relay (list_of site from) number to (list_used site from is) leads

  reach_with : (which : Executed) (scope : Scope) → ((from : SiteInput) (number : ℕ) (to : SiteInput)
      → Reaches site one scope from.relay (list_of site from) number to → LeadsBy site one which from number to)
      → ((from : SiteInput) (number : ℕ) (to : SiteInput) → LeadsBy site other which from number to
      → Reaches site other scope from.relay (list_of site from) number to) → (x : SiteInput) → Reach site one scope x → Reach site other scope x
  reach_with which scope as_leads as_reaches x (entry is) = entry is
  reach_with which scope as_leads as_reaches x (onward {from} number before r) =
      onward number (reach_with which scope as_leads as_reaches from before)
      (as_reaches from number x (leads_by which from number x (reach_there site law one scope from before) (as_leads from number x r)))

  pub firm_to : (x : SiteInput) → Reach site one Scope.Firm x → Reach site other Scope.Firm x
  firm_to = reach_with executed.Firm Scope.Firm (λ from number to r. r) (λ from number to r. r)

  pub every_to : (x : SiteInput) → Reach site one Scope.Every x → Reach site other Scope.Every x
  every_to = reach_with executed.Every Scope.Every (λ from number to r. r) (λ from number to r. r)

  pub origin_to : (which : Executed) (start found : List SiteInput) → ((x : SiteInput) → Contains found x → IsInput site x) → (place : ℕ) (to : SiteInput)
      (origin : Option Origin) → IsOrigin site one which start found place to origin → IsOrigin site other which start found place to origin
  origin_to which start found all place to None is = is
  origin_to which start found all place to (Some o) is =
      (is.0, is.1, (is.2.0, leads_by which o.row.input o.row.number to (all o.row.input (stands_in found o.place o.row.input is.1)) is.2.1))

  hops_to : (which : Executed) (relay list : ℕ) (hops : List Hop) → is_used (plan_at site relay) list ≡ true → AreAlike site other one
      → AreHops site one which relay list hops → AreHops site other which relay list hops
  hops_to which relay list hops used back are = record {
    sound = λ hop is.
        (let sound = are.sound hop is in (sound.0, leads_to site law one other same which relay list hop.number hop.to used sound.1));
    whole = λ number to leads. are.whole number to (leads_to site law other one back which relay list number to used leads);
  }

  pub posts_to : (which : Executed) (scope : Scope) → ((relay list number : ℕ) (is : Occurrence) → MayDo site one scope relay list number is
      → Does site one which relay list number is) → ((relay list number : ℕ) (is : Occurrence) → Does site other which relay list number is
      → MayDo site other scope relay list number is) → (relay : ℕ) {from to : ℕ} → is_used (plan_at site relay) from ≡ true
      → PostsOn site one scope relay from to → PostsOn site other scope relay from to
  posts_to which scope as_does as_may relay {from} {to} used (once number does) =
      once number (as_may relay from number (occurrence.Post to) ((same which relay from number (occurrence.Post to) used).0 (as_does relay from number (occurrence.Post to) does)))
  posts_to which scope as_does as_may relay {from} {to} used (more {mid = mid} number does later) =
      more number (as_may relay from number (occurrence.Post mid) ((same which relay from number (occurrence.Post mid) used).0 (as_does relay from number (occurrence.Post mid) does)))
      (posts_to which scope as_does as_may relay (posted_used site law relay from number mid does.found) later)

  lists_by : (which : Executed) (relay list to : ℕ) → is_used (plan_at site relay) list ≡ true → LeadsByPosts site one which relay list to
      → LeadsByPosts site other which relay list to
  lists_by executed.Every relay list to used leads = posts_to executed.Every Scope.Every (λ r l n is does. does) (λ r l n is does. does) relay used leads
  lists_by executed.Firm relay list to used leads = posts_to executed.Firm Scope.Firm (λ r l n is does. does) (λ r l n is does. does) relay used leads
  lists_by executed.Must relay list to used leads = leads

module _ (site : Site) (law : IsLawful site) (one other : Class) (same : AreAlike site one other) where
  pub site_hops_to : (which : Executed) (hops : SiteHops) → AreAlike site other one → AreSiteHops site one which hops → AreSiteHops site other which hops
  site_hops_to which hops back are = record {
    length_is = are.length_is;
    each = λ relay lists at.
        let own = are.each relay lists at in
        record {
          length_is = own.length_is;
          each = λ list of here is.
              (let used = input_used (plan_at site relay) list is in
              let had = own.each list of here is in
              record {
                hops = hops_to site law one other same which relay list of.hops.items used back had.hops;
                lists = record {
                  each = λ to. (
                    λ there. lists_by site law one other same which relay list to used ((had.lists.each to).0 there),
                    λ leads. (had.lists.each to).1 (lists_by site law other one back which relay list to used leads),
                  );
                  apart = had.lists.apart;
                };
              });
        };
  }
