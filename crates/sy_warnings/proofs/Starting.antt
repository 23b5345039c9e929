-- The inputs of a site, relay by relay.
use Rattle.std.proofs.Common.{◌≡◌, ℕ, ◌<◌, ◌≤◌, ◌+◌, List, [], ◌∷◌, ◌++◌, length, get_or, None, refl, sym, ap, subst, ◌∙◌, arith, inl, inr}
use Rattle.std.specs.Prelude.{Contains, ◌⊎◌}
use Rattle.std.proofs.lemmas.Bool.{cases_eq}
use Rattle.std.proofs.lemmas.List.Elements.{Contains-append_left, Contains-push, Contains-push_cases}
use Rattle.std.proofs.lemmas.Option.{slice_get-get_or}
use Rattle.sy_rules.specs.declared.parameters.settings.FlowControl.TheVariants as control
use Rattle.sy_rules.specs.declared.parts.Input.{Input}
use Rattle.sy_site.specs.declared.site.SiteInput.{SiteInput}
use Rattle.sy_site.specs.Sites.{Site, plan_at}
use Rattle.sy_site.specs.machine.Lawful.{IsInput, IsLawful}
use Rattle.sy_warnings.specs.declared.following.Following.TheVariants as following
use Rattle.sy_warnings.specs.internal.Following.{AreInputsBelow, AreStarts}
use Rattle.sy_flows.proofs.There.{place_there, relay_there}

pub record AreInputsTo (site : Site) (relay most : ℕ) (inputs : List SiteInput) : Type 0 where
  pub there : (x : SiteInput) → Contains inputs x → IsInput site x
  pub whole : (x : SiteInput) → IsInput site x → (x.relay < relay) ⊎ ((x.relay ≡ relay) × (x.input < most)) → Contains inputs x

pub inputs_none : (site : Site) → AreInputsBelow site 0 []
inputs_none site = record {
  there = λ x has. (let low = has.1 in absurd (omega (arith, low)));
  whole = λ x is low. absurd (omega (arith, low));
}

pub inputs_begin : (site : Site) (relay : ℕ) (inputs : List SiteInput) → AreInputsBelow site relay inputs → AreInputsTo site relay 0 inputs
inputs_begin site relay inputs are = record {
  there = are.there;
  whole = λ x is low. elim low [
    | inl earlier ↦ are.whole x is earlier
    | inr here ↦ let none = here.1 in absurd (omega (arith, none))
  ];
}

pub inputs_more : (site : Site) (relay most : ℕ) (inputs : List SiteInput) → most < length (plan_at site relay).inputs
    → AreInputsTo site relay most inputs → AreInputsTo site relay (most + 1) (inputs ++ record { relay = relay; input = most } ∷ [])
inputs_more site relay most inputs low are =
    let it : SiteInput = record { relay = relay; input = most } in
    let none : Input = record { port = 0; flow = control.Off; list = 0; queue = 0; unread_file = None } in
    let is_there : IsInput site it = record {
      parts = get_or (plan_at site relay).inputs most none;
      found = slice_get-get_or (plan_at site relay).inputs most none low;
    } in
    record {
      there = λ x has. elim (Contains-push_cases inputs it x has) [
        | inl before ↦ are.there x before
        | inr here ↦ subst (IsInput site) here is_there
      ];
      whole = λ x is within. elim within [
        | inl earlier ↦ Contains-append_left inputs (it ∷ []) x (are.whole x is (inl earlier))
        | inr at ↦
            let below = at.1 in
            elim (cases_eq x.input most) [
              | inl same ↦
                  let one : it ≡ x = (λ i. record { relay = sym at.0 i; input = sym same i }) in
                  subst (Contains (inputs ++ it ∷ [])) one (Contains-push inputs it)
              | inr apart ↦ Contains-append_left inputs (it ∷ []) x (are.whole x is (inr (at.0, omega (arith, below, apart))))
            ]
      ];
    }

pub inputs_done : (site : Site) (relay most : ℕ) (inputs : List SiteInput) → length (plan_at site relay).inputs ≤ most
    → AreInputsTo site relay most inputs → AreInputsBelow site (relay + 1) inputs
inputs_done site relay most inputs all are = record {
  there = are.there;
  whole = λ x is low. elim (cases_eq x.relay relay) [
    | inl same ↦
        let within = subst (λ r. x.input < length (plan_at site r).inputs) same (place_there site x is) in
        are.whole x is (inr (same, omega (arith, within, all)))
    | inr apart ↦ are.whole x is (inl (omega (arith, low, apart)))
  ];
}

pub inputs_all : (site : Site) (most : ℕ) (inputs : List SiteInput) → length site.relays ≤ most → AreInputsBelow site most inputs
    → AreStarts site following.Every inputs
inputs_all site most inputs all are = record {
  there = are.there;
  start = are.there;
  whole = λ x is. (let low = relay_there site x is in are.whole x is (omega (arith, low, all)));
}

entry_there : (site : Site) → IsLawful site → (x : SiteInput) → Contains site.entries x → IsInput site x
entry_there site law x (k, low, is) = subst (IsInput site) is (law.entries k x low)

pub entries_begin : (site : Site) → IsLawful site → AreStarts site following.Firm site.entries
entries_begin site law = record {
  there = entry_there site law;
  start = λ x has. has;
  whole = λ x has. has;
}
