-- Paths that are looked for.
use Rattle.std.proofs.Common.{[], ◌≡◌, ℕ, ◌<◌, ◌≤◌, ◌+◌, List, ◌∷◌, ◌++◌, length, get_or, reverse, Option, Some, None, sym, ap, subst, refl, ◌∙◌, arith, inl, inr}
use Rattle.std.specs.Prelude.{Contains, option_map, slice_get}
use Rattle.std.proofs.lemmas.Bool.{cases_eq}
use Rattle.std.proofs.lemmas.List.{reverse-append}
use Rattle.std.proofs.lemmas.Option.{slice_get-get_or}
use Rattle.sy_wire.specs.declared.class.Class.{Class}
use Rattle.sy_cert.specs.Rows.{AreOccurrences}
use Rattle.sy_rules.specs.declared.lists.occurrence.Occurrence.TheVariants as occurrence
use Rattle.sy_site.specs.declared.site.SiteAction.{SiteAction}
use Rattle.sy_site.specs.declared.site.SiteInput.{SiteInput}
use Rattle.sy_site.specs.Sites.{Site}
use Rattle.sy_site.specs.machine.Reach.{ListLeadsTo, leads_on, list_of, posts_on, writes}
use Rattle.sy_flows.specs.declared.lists.ListOrigin.{ListOrigin}
use Rattle.sy_flows.specs.declared.lists.InnerList.{InnerList}
use Rattle.sy_flows.specs.Leads.{AreFound, IsLed, MustLead, MustWriteAt, list_at}
use Rattle.sy_checker.specs.internal.Leads.{IsLead, IsWayBetween}
use Rattle.sy_fit.proofs.Paths.{IsPathAt, one_value, path_step}

-- ---- a way, walked back
pub record HasWay (site : Site) (class : Class) (found : List InnerList) (place at : ℕ) (back : List ℕ) : Type 0 where
  pub within : at < length found
  pub led : (x end : InnerList) → slice_get found at ≡ Some x → slice_get found place ≡ Some end → IsWayBetween site class x (reverse back) end

pub way_first : (site : Site) (class : Class) (found : List InnerList) (place : ℕ) → place < length found → HasWay site class found place place []
way_first site class found place low = record {
  within = low;
  led = λ x end here there. one_value (sym here ∙ there);
}

pub read_at : (found : List InnerList) (at : ℕ) → at < length found → (x : InnerList) × (slice_get found at ≡ Some x)
read_at found at low =
    let none : InnerList = record { relay = 0; list = 0 } in
    (get_or found at none, slice_get-get_or found at none low)

module _ (site : Site) (class : Class) (start : InnerList) (found : List InnerList) (origins : List (Option ListOrigin))
    (are : AreFound site class start found origins) (place at : ℕ) (back : List ℕ) (has : HasWay site class found place at back) where
  pub way_more : (origin : ListOrigin) → slice_get origins at ≡ Some (Some origin) → HasWay site class found place origin.place (back ++ origin.number ∷ [])
  way_more origin is =
      let within = has.within in
      let at_it = read_at found at within in
      let from = are.each at at_it.0 (Some origin) at_it.1 is in
      let before = from.0 in
      record {
        within = omega (arith, before, within);
        led = λ x end here there.
            subst (λ way. IsWayBetween site class x way end) (sym (reverse-append back (origin.number ∷ [])))
            (from.3, at_it.0, subst (λ z. MustLead site class z origin.number at_it.0) (one_value (sym from.2 ∙ here)) from.4, has.led at_it.0 end at_it.1 there);
      }

  pub way_before : (origin : ListOrigin) → slice_get origins at ≡ Some (Some origin) → origin.place < at
  way_before origin is = let at_it = read_at found at has.within in (are.each at at_it.0 (Some origin) at_it.1 is).0

  pub way_whole : slice_get origins at ≡ Some None → (end : InnerList) → slice_get found place ≡ Some end → IsWayBetween site class start (reverse back) end
  way_whole is end there =
      let at_it = read_at found at has.within in
      subst (λ z. IsWayBetween site class z (reverse back) end) (sym (are.each at at_it.0 None at_it.1 is)) (has.led at_it.0 end at_it.1 there)

-- ---- a path, and where there is none
path_between : (site : Site) (class : Class) (archive : SiteAction) (way : List ℕ) (from end : InnerList) → IsWayBetween site class from way end
    → MustWriteAt site class archive end → IsPathAt site class archive from way
path_between site class archive [] from end is write = subst (MustWriteAt site class archive) (sym is) write
path_between site class archive (number ∷ way) from end led write =
    path_step site class archive from number way led.1 led.2 (path_between site class archive way led.1 end led.3 write)

small_between : (site : Site) (class : Class) (way : List ℕ) (from end : InnerList) → IsWayBetween site class from way end → AreOccurrences way
small_between site class [] from end led = tt
small_between site class (number ∷ way) from end led = (led.0, small_between site class way led.1 end led.3)

pub path_is : (site : Site) (class : Class) (archive : SiteAction) (entry : SiteInput) (way : List ℕ) (end : InnerList)
    → IsWayBetween site class (list_at site entry) way end → MustWriteAt site class archive end → IsLead site class archive entry (Some way)
path_is site class archive entry way end led write =
    (path_between site class archive way (list_at site entry) end led write, small_between site class way (list_at site entry) end led)

module _ (site : Site) (class : Class) (archive : SiteAction) (found : List InnerList)
    (closed : (from : InnerList) → Contains found from → IsLed site class found from)
    (none : (x : InnerList) → Contains found x → MustWriteAt site class archive x → ⊥) where
  pub leads_not : (relay list : ℕ) → Contains found (record { relay = relay; list = list }) → ListLeadsTo site class archive relay list → ⊥
  leads_not relay list is (writes number action does same) =
      none (record { relay = relay; list = list }) is (record { number = number; action = action; does = does; writes = same })
  leads_not relay list is (leads_on number action to does leads later) =
      leads_not to.relay (list_of site to)
      (closed (record { relay = relay; list = list }) is number (list_at site to)
      (record { is = occurrence.Run action; does = does; leads = ap (option_map (list_at site)) leads })) later
  leads_not relay list is (posts_on number inner does later) =
      leads_not relay inner
      (closed (record { relay = relay; list = list }) is number (record { relay = relay; list = inner })
      (record { is = occurrence.Post inner; does = does; leads = refl })) later

-- ---- places of a list
abbrev pub HoldsBelow : (InnerList → Type 0) → List InnerList → ℕ → Type 0
HoldsBelow P xs most = (k : ℕ) (x : InnerList) → k < most → slice_get xs k ≡ Some x → P x

pub holds_more : (P : InnerList → Type 0) (xs : List InnerList) (n : ℕ) (it : InnerList) → slice_get xs n ≡ Some it → P it → HoldsBelow P xs n
    → HoldsBelow P xs (n + 1)
holds_more P xs n it here p before k x low is = elim (cases_eq k n) [
  | inl same ↦
      let at : slice_get xs n ≡ Some x = subst (λ j. slice_get xs j ≡ Some x) same is in
      subst P (one_value (sym here ∙ at)) p
  | inr apart ↦ before k x (omega (arith, low, apart)) is
]

pub holds_all : (P : InnerList → Type 0) (xs : List InnerList) (n : ℕ) → length xs ≤ n → HoldsBelow P xs n → (x : InnerList) → Contains xs x → P x
holds_all P xs n all before x (k, low, is) =
    let at : slice_get xs k ≡ Some x = slice_get-get_or xs k x low ∙ ap Some is in
    before k x (omega (arith, low, all)) at
