-- Which lists of a relay have what is needed, list by list.
use Rattle.std.proofs.Common.{◌≡◌, ℕ, ◌<◌, ◌≤◌, ◌+◌, Bool, true, false, List, [], ◌∷◌, ◌++◌, length, Option, Some, None, refl, sym, ap, subst, ◌∙◌, arith, inl, inr}
use Rattle.std.specs.Prelude.{Decides, ◌⊎◌, slice_get}
use Rattle.std.proofs.lemmas.Bool.{cases_eq, cases_lt, false≢true}
use Rattle.std.proofs.lemmas.List.{length-append}
use Rattle.std.proofs.lemmas.Option.{slice_get_within}
use Rattle.sy_site.specs.Sites.{Site, plan_at}
use Rattle.sy_warnings.specs.internal.Holding.{AreNeeded, HasNeeded}
use Rattle.sy_flows.proofs.Used.{list_of_found}

one_value : {A : Type 0} {x y : A} → Some x ≡ Some y → x ≡ y
one_value e = cc

-- ---- lists with what is needed

pub record AreNeededBelow (site : Site) (relay most : ℕ) (needed : List Bool) : Type 0 where
  pub many : length needed ≡ most
  pub sound : (list : ℕ) → slice_get needed list ≡ Some true → HasNeeded site (record { relay = relay; list = list })
  pub whole : (list : ℕ) → list < most → HasNeeded site (record { relay = relay; list = list }) → slice_get needed list ≡ Some true

pub needed_first : (site : Site) (relay : ℕ) → AreNeededBelow site relay 0 []
needed_first site relay = record {
  many = refl;
  sound = λ list at. (let low = slice_get_within [] list true at in absurd (omega (arith, low)));
  whole = λ list low. absurd (omega (arith, low));
}

same_place : (old more : List Bool) (j : ℕ) → j < length old → slice_get (old ++ more) j ≡ slice_get old j
same_place [] more j low = absurd (omega (arith, low))
same_place (x ∷ old) more ℕ.zero low = refl
same_place (x ∷ old) more (ℕ.suc j) low = same_place old more j (omega (arith, low))

last_place : (old : List Bool) (x : Bool) → slice_get (old ++ x ∷ []) (length old) ≡ Some x
last_place [] x = refl
last_place (y ∷ old) x = last_place old x

pub needed_more : (site : Site) (relay most : ℕ) (needed : List Bool) (it : Bool) → Decides it (HasNeeded site (record { relay = relay; list = most }))
    → AreNeededBelow site relay most needed → AreNeededBelow site relay (most + 1) (needed ++ it ∷ [])
needed_more site relay most needed it decides are =
    let many = are.many in
    let longer = length-append needed (it ∷ []) in
    record {
      many = omega (arith, many, longer);
      sound = λ list at. elim (cases_eq list most) [
        | inl same ↦ subst (λ k. HasNeeded site (record { relay = relay; list = k })) (sym same)
            (decides.0 (one_value (sym (here list same) ∙ at)))
        | inr apart ↦
            let within = slice_get_within (needed ++ it ∷ []) list true at in
            are.sound list (sym (same_place needed (it ∷ []) list (omega (arith, within, longer, many, apart))) ∙ at)
      ];
      whole = λ list low has. elim (cases_eq list most) [
        | inl same ↦ here list same
            ∙ ap (λ b. Some b) (decides.1 (subst (λ k. HasNeeded site (record { relay = relay; list = k })) same has))
        | inr apart ↦ same_place needed (it ∷ []) list (omega (arith, low, many, apart)) ∙ are.whole list (omega (arith, low, apart)) has
      ];
    }
  where
    here : (list : ℕ) → list ≡ most → slice_get (needed ++ it ∷ []) list ≡ Some it
    here list same = ap (slice_get (needed ++ it ∷ [])) (same ∙ sym are.many) ∙ last_place needed it

pub needed_all : (site : Site) (relay most : ℕ) (needed : List Bool) → most ≡ length (plan_at site relay).lists → AreNeededBelow site relay most needed
    → AreNeeded site relay needed
needed_all site relay most needed is are = record {
  many = are.many ∙ is;
  sound = are.sound;
  whole = λ list has.
      (let low = list_of_found site relay list has.0 has.1.0 has.1.1.does.found in
      are.whole list (omega (arith, low, is)) has);
}
