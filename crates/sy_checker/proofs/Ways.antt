-- Ways to inputs that were found, and what follows from there.
use Rattle.std.proofs.Common.{◌≡◌, ℕ, ◌<◌, ◌≤◌, ◌+◌, true, List, [], ◌∷◌, ◌++◌, length, get_or, map, reverse, Option, Some, None, sym, subst, ◌∙◌, arith, inl, inr}
use Rattle.std.specs.Prelude.{Contains, slice_get}
use Rattle.std.proofs.lemmas.Bool.{cases_eq}
use Rattle.std.proofs.lemmas.List.{reverse-append}
use Rattle.std.proofs.lemmas.Option.{slice_get-get_or, slice_get_within}
use Rattle.sy_wire.specs.declared.class.Class.{Class}
use Rattle.sy_site.specs.declared.site.SiteInput.{SiteInput}
use Rattle.sy_site.specs.Sites.{Site, is_protected}
use Rattle.sy_site.specs.machine.Findings.{HoldsAt, IsFinding, IsWay, IsWayFrom, Kind as AnyKind}
use Rattle.sy_flows.specs.declared.flows.executed.Executed.{Executed}
use Rattle.sy_flows.specs.declared.flows.executed.Executed.TheVariants as executed
use Rattle.sy_site.specs.declared.finding.Kind.{Kind}
use Rattle.sy_site.specs.declared.finding.Kind.TheVariants as kind
use Rattle.sy_site.specs.declared.finding.WayRow.{WayRow}
use Rattle.sy_flows.specs.declared.reach.Origin.{Origin}
use Rattle.sy_checker.specs.internal.Answer.{IsKindAt, IsRiskAt}
use Rattle.sy_site.specs.Finding.{kind_of, way_of}
use Rattle.sy_flows.proofs.Places.{at_place}
use Rattle.sy_fit.proofs.Risky.{all_clean}
use Rattle.sy_flows.specs.Search.{AreRooted, IsNumberTo, IsSpread}
use Rattle.sy_checker.specs.internal.Search.{IsLed, IsLedFrom}

pub one_value : {A : Type 0} {x y : A} → Some x ≡ Some y → x ≡ y
one_value e = cc

-- ---- a way, walked back

pub record HasWay (site : Site) (class : Class) (which : Executed) (found : List SiteInput) (place at : ℕ) (back : List WayRow) : Type 0 where
  pub within : at < length found
  pub led : (x end : SiteInput) → slice_get found at ≡ Some x → slice_get found place ≡ Some end
      → IsLedFrom site class which x (reverse back) end

pub way_first : (site : Site) (class : Class) (which : Executed) (found : List SiteInput) (place : ℕ) → place < length found
    → HasWay site class which found place place []
way_first site class which found place low = record {
  within = low;
  led = λ x end here there. one_value (sym here ∙ there);
}

pub read_at : (found : List SiteInput) (at : ℕ) → at < length found → (x : SiteInput) × (slice_get found at ≡ Some x)
read_at found at low =
    let none : SiteInput = record { relay = 0; input = 0 } in
    (get_or found at none, slice_get-get_or found at none low)

module _ (site : Site) (class : Class) (which : Executed) (start found : List SiteInput) (origins : List (Option Origin))
    (rooted : AreRooted site class which start found origins) (place at : ℕ) (back : List WayRow) (has : HasWay site class which found place at back)
  where
    pub way_more : (origin : Origin) → slice_get origins at ≡ Some (Some origin) → HasWay site class which found place origin.place (back ++ origin.row ∷ [])
    way_more origin is =
        let within = has.within in
        let at_it = read_at found at within in
        let from = rooted.each at at_it.0 (Some origin) at_it.1 is in
        let before = from.0 in
        record {
          within = omega (arith, before, within);
          led = λ x end here there.
              (let same : origin.row.input ≡ x = one_value (sym from.1 ∙ here) in
              subst (λ way. IsLedFrom site class which x way end) (sym (reverse-append back (origin.row ∷ [])))
              (same, at_it.0, subst (λ z. IsNumberTo site class which z at_it.0 origin.row.number) same from.2, has.led at_it.0 end at_it.1 there));
        }

    pub way_whole : slice_get origins at ≡ Some None → (end : SiteInput) → slice_get found place ≡ Some end
        → IsLed site class which start (reverse back) end
    way_whole is end there =
        let at_it = read_at found at has.within in
        record { from = at_it.0; starts = rooted.each at at_it.0 None at_it.1 is; follows = has.led at_it.0 end at_it.1 there }

-- ---- ways as findings have them

way_from : (site : Site) (class : Class) (way : List WayRow) (from end : SiteInput) → IsLedFrom site class executed.Firm from way end
    → IsWayFrom site class from (way_of way) end
way_from site class [] from end is = is
way_from site class (row ∷ way) from end led = (led.0, led.1, led.2.1, way_from site class way led.1 end led.3)

pub way_is : (site : Site) (class : Class) (way : List WayRow) (end : SiteInput) → IsLed site class executed.Firm site.entries way end
    → IsWay site class (way_of way) end
way_is site class way end led = record {
  entry = led.from;
  is_entry = led.starts;
  follows = way_from site class way led.from end led.follows;
}

pub is_finding : (site : Site) (class : Class) (way : List WayRow) (input : SiteInput) (k : Kind) → is_protected site class ≡ true
    → IsWay site class (way_of way) input → HoldsAt site class input (kind_of k) → IsFinding site class (way_of way) input (kind_of k)
is_finding site class way input kind.NotFull asked is holds = record { protected = asked; found = (is, holds) }
is_finding site class way input kind.MarkOff asked is holds = record { protected = asked; found = (is, holds) }
is_finding site class way input kind.MarkAboveSize asked is holds = record { protected = asked; found = (is, holds) }
is_finding site class way input kind.Discards asked is holds = record { protected = asked; found = (is, holds) }
is_finding site class way input kind.InnerQueue asked is holds = record { protected = asked; found = (is, holds) }
is_finding site class way input kind.GivesUp asked is holds = record { protected = asked; found = (is, holds) }
is_finding site class way input kind.NoTarget asked is holds = record { protected = asked; found = (is, holds) }
is_finding site class way input kind.InnerLoop asked is holds = record { protected = asked; found = (is, holds) }
is_finding site class way input kind.Loop asked is holds = absurd holds
is_finding site class way input (kind.Unmet archive) asked is holds = absurd holds

-- ---- what is answered

pub kind_by : (site : Site) (class : Class) (input : SiteInput) (answer : Option Kind) → (HoldsAt site class input AnyKind.NotFull → ⊥)
    → (HoldsAt site class input AnyKind.MarkOff → ⊥) → (HoldsAt site class input AnyKind.MarkAboveSize → ⊥)
    → (HoldsAt site class input AnyKind.Discards → ⊥) → IsRiskAt site class input answer → IsKindAt site class input answer
kind_by site class input None full off above discards risk = all_clean site class input full off above discards risk
kind_by site class input (Some k) full off above discards risk = risk

abbrev pub HoldsBelow : (SiteInput → Type 0) → List SiteInput → ℕ → Type 0
HoldsBelow P xs most = (k : ℕ) (x : SiteInput) → k < most → slice_get xs k ≡ Some x → P x

pub holds_more : (P : SiteInput → Type 0) (xs : List SiteInput) (n : ℕ) (it : SiteInput) → slice_get xs n ≡ Some it → P it → HoldsBelow P xs n
    → HoldsBelow P xs (n + 1)
holds_more P xs n it here p before k x low is = elim (cases_eq k n) [
  | inl same ↦
      let at : slice_get xs n ≡ Some x = subst (λ j. slice_get xs j ≡ Some x) same is in
      subst P (one_value (sym here ∙ at)) p
  | inr apart ↦ before k x (omega (arith, low, apart)) is
]

pub holds_all : (P : SiteInput → Type 0) (xs : List SiteInput) (n : ℕ) → length xs ≤ n → HoldsBelow P xs n → (x : SiteInput) → Contains xs x → P x
holds_all P xs n all before x is =
    let at = at_place xs x is in
    let low = slice_get_within xs at.0 x at.1 in
    before at.0 x (omega (arith, low, all)) at.1

pub it_stands : (xs : List SiteInput) (n : ℕ) (d it : SiteInput) → slice_get xs n ≡ Some it → get_or xs n d ≡ it
it_stands xs n d it is = one_value (sym (slice_get-get_or xs n d (slice_get_within xs n it is)) ∙ is)
