-- Classes that execute the same of each list reach the same inputs.
use Rattle.std.proofs.Common.{◌≡◌, ℕ, ◌<◌, List, [], ◌∷◌, ◌++◌, length, get_or, Some, refl, sym, subst, ◌∙◌, arith, inl, inr}
use Rattle.std.specs.Prelude.{slice_get}
use Rattle.std.proofs.lemmas.Option.{slice_get_read, slice_get_within}
use Rattle.sy_wire.specs.declared.class.Class.{Class}
use Rattle.sy_site.specs.Sites.{Site}
use Rattle.sy_site.specs.machine.Lawful.{IsLawful}
use Rattle.sy_flows.specs.declared.flows.executed.Executed.TheVariants as executed
use Rattle.sy_flows.specs.declared.flows.SiteFlows.{SiteFlows}
use Rattle.sy_flows.specs.declared.flows.walk.Walk.{Walk}
use Rattle.sy_flows.specs.Flows.{AreSame, AreSiteFlows}
use Rattle.sy_flows.specs.Walks.{AreWalks, IsWalk, IsWalkAt}
use Rattle.sy_flows.specs.internal.Walks.{IsSameAt}
use Rattle.sy_flows.proofs.Alike.{alike, every_to, firm_to, flows_as, one_value, site_hops_to, turned}
use Rattle.sy_flows.proofs.Led.{leads_as}
use Rattle.sy_flows.proofs.Rooted.{last_place, stood}

walk_as : (site : Site) → IsLawful site → (one other : Class) (walk : Walk) (flows : SiteFlows) → IsWalk site one walk
    → AreSiteFlows site other flows → AreSame walk.flows.lists flows → IsWalk site other walk
walk_as site law one other walk flows is are same =
    let own = flows_as site other walk.flows.lists flows same are in
    let both = alike site one other walk.flows.lists is.flows.lists own in
    let back = turned site one other both in
    record {
      flows = record {
        lists = own;
        every = site_hops_to site law one other both executed.Every walk.flows.every back is.flows.every;
        firm = site_hops_to site law one other both executed.Firm walk.flows.firm back is.flows.firm;
      };
      firm = λ x. (
        λ has. firm_to site law one other both x ((is.firm x).0 has),
        λ reach. (is.firm x).1 (firm_to site law other one back x reach),
      );
      every = λ x. (
        λ has. every_to site law one other both x ((is.every x).0 has),
        λ reach. (is.every x).1 (every_to site law other one back x reach),
      );
      leads = leads_as site one other both walk.leads.items is.leads;
    }

-- ---- the walks so far

pub no_walks : (site : Site) → AreWalks site []
no_walks site place walk is = let low = slice_get_within [] place walk is in absurd (omega (arith, low))

pub more_walks : (site : Site) (class : Class) (walks : List Walk) (walk : Walk) → AreWalks site walks → IsWalk site class walk
    → AreWalks site (walks ++ walk ∷ [])
more_walks site class walks walk are is place x stands = elim (stood walks walk place x stands) [
  | inl before ↦ are place x before
  | inr last ↦ (class, subst (IsWalk site class) (sym last.1) is)
]

pub last_walk : (site : Site) (class : Class) (walks : List Walk) (walk : Walk) → IsWalk site class walk
    → IsWalkAt site class (walks ++ walk ∷ []) (length walks)
last_walk site class walks walk is = record { walk = walk; stands = last_place walks walk; is = is }

pub same_walk_at : (site : Site) → IsLawful site → (class : Class) (walks : List Walk) (flows : SiteFlows) (place : ℕ) → AreWalks site walks
    → AreSiteFlows site class flows → IsSameAt walks flows place → IsWalkAt site class walks place
same_walk_at site law class walks flows place are own at =
    let before = are place at.walk at.stands in
    record {
      walk = at.walk;
      stands = at.stands;
      is = walk_as site law before.0 class at.walk flows before.1 own at.same;
    }

-- the one that is read there
pub walk_read : (site : Site) (class : Class) (walks : List Walk) (place : ℕ) (x : Walk) → IsWalkAt site class walks place
    → x ≡ get_or walks place x → IsWalk site class x
walk_read site class walks place x at is =
    let low = slice_get_within walks place at.walk at.stands in
    let here = slice_get_read walks (length walks) place x refl low is in
    subst (IsWalk site class) (one_value (sym at.stands ∙ here)) at.is

pub walk_within : (site : Site) (class : Class) (walks : List Walk) (place : ℕ) → IsWalkAt site class walks place → place < length walks
walk_within site class walks place at = slice_get_within walks place at.walk at.stands
