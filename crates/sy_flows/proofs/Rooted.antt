-- Where inputs were found from, kept with them.
use Rattle.std.proofs.Common.{◌≡◌, ℕ, ◌<◌, List, [], ◌∷◌, ◌++◌, length, get_or, Option, Some, None, refl, sym, ap, subst, ◌∙◌, arith, inl, inr}
use Rattle.std.specs.Prelude.{Contains, ◌⊎◌, slice_get}
use Rattle.std.proofs.lemmas.Bool.{cases_lt}
use Rattle.std.proofs.lemmas.List.{length-append}
use Rattle.std.proofs.lemmas.Option.{slice_get-get_or, slice_get_read, slice_get_within}
use Rattle.sy_wire.specs.declared.class.Class.{Class}
use Rattle.sy_site.specs.declared.site.SiteInput.{SiteInput}
use Rattle.sy_site.specs.Sites.{Site}
use Rattle.sy_site.specs.machine.Reach.{list_of}
use Rattle.sy_flows.specs.declared.flows.executed.Executed.{Executed}
use Rattle.sy_flows.specs.declared.flows.Hop.{Hop}
use Rattle.sy_flows.specs.declared.reach.Origin.{Origin}
use Rattle.sy_flows.specs.Hops.{AreHops}
use Rattle.sy_flows.specs.internal.Found.{Adds}
use Rattle.sy_flows.specs.Search.{AreRooted, IsOrigin}
use Rattle.sy_flows.specs.internal.Search.{GoBack}

one_value : {A : Type 0} {x y : A} → Some x ≡ Some y → x ≡ y
one_value e = cc

-- ---- places in a list with more behind

module _ {A : Type 0} where
  pub same_place : (old more : List A) (j : ℕ) → j < length old → slice_get (old ++ more) j ≡ slice_get old j
  same_place [] more j low = absurd (omega (arith, low))
  same_place (x ∷ old) more ℕ.zero low = refl
  same_place (x ∷ old) more (ℕ.suc j) low = same_place old more j (omega (arith, low))

  pub last_place : (old : List A) (x : A) → slice_get (old ++ x ∷ []) (length old) ≡ Some x
  last_place [] x = refl
  last_place (y ∷ old) x = last_place old x

  still : (old more : List A) (j : ℕ) (x : A) → slice_get old j ≡ Some x → slice_get (old ++ more) j ≡ Some x
  still old more j x is = same_place old more j (slice_get_within old j x is) ∙ is

  -- what stands there, stood there before, or is the new one
  pub stood : (old : List A) (new : A) (j : ℕ) (x : A) → slice_get (old ++ new ∷ []) j ≡ Some x
      → (slice_get old j ≡ Some x) ⊎ ((j ≡ length old) × (x ≡ new))
  stood old new j x is = elim (cases_lt j (length old)) [
    | inl low ↦ inl (sym (same_place old (new ∷ []) j low) ∙ is)
    | inr high ↦
        let within = slice_get_within (old ++ new ∷ []) j x is in
        let many = length-append old (new ∷ []) in
        let last : j ≡ length old = omega (arith, within, many, high) in
        inr (last, one_value (sym is ∙ ap (slice_get (old ++ new ∷ [])) last ∙ last_place old new))
  ]

-- what is read at a place, stands there
pub read_there : {A : Type 0} (xs : List A) (j : ℕ) (x y : A) → j < length xs → x ≡ get_or xs j x → x ≡ y → slice_get xs j ≡ Some y
read_there xs j x y low is same = slice_get_read xs (length xs) j x refl low is ∙ ap Some same

pub is_none : {A : Type 0} (o : Option A) → ((x : A) → o ≡ Some x → ⊥) → o ≡ None
is_none None not = refl
is_none (Some x) not = absurd (not x refl)

-- an input that was found stays at its place
pub stands_still : (P : SiteInput → Type 0) (old new : List SiteInput) → Adds P old new → (place : ℕ) (x : SiteInput) → slice_get old place ≡ Some x
    → slice_get new place ≡ Some x
stands_still P old new added place x is = subst (λ l. slice_get l place ≡ Some x) (sym added.whole) (still old added.more place x is)

-- ---- one more

origin_stays : (site : Site) (class : Class) (which : Executed) (start found more : List SiteInput) (place : ℕ) (to : SiteInput) (origin : Option Origin)
    → IsOrigin site class which start found place to origin → IsOrigin site class which start (found ++ more) place to origin
origin_stays site class which start found more place to None is = is
origin_stays site class which start found more place to (Some o) is = (is.0, still found more o.place o.row.input is.1, is.2)

module _ (site : Site) (class : Class) (which : Executed) (start : List SiteInput) where
  pub rooted_none : AreRooted site class which start [] []
  rooted_none = record {
    many = refl;
    each = λ place to origin here there. (let low = slice_get_within [] place to here in absurd (omega (arith, low)));
  }

  pub rooted_more : (found : List SiteInput) (origins : List (Option Origin)) (x : SiteInput) (origin : Option Origin)
      → IsOrigin site class which start found (length found) x origin → AreRooted site class which start found origins
      → AreRooted site class which start (found ++ x ∷ []) (origins ++ origin ∷ [])
  rooted_more found origins x origin is rooted =
      let many = rooted.many in
      let longer = length-append found (x ∷ []) in
      let origins_longer = length-append origins (origin ∷ []) in
      record {
        many = omega (arith, many, longer, origins_longer);
        each = λ place to o here there. origin_stays site class which start found (x ∷ []) place to o (each_of place to o (stood found x place to here)
            (stood origins origin place o there));
      }
    where
      each_of : (place : ℕ) (to : SiteInput) (o : Option Origin) → (slice_get found place ≡ Some to) ⊎ ((place ≡ length found) × (to ≡ x))
          → (slice_get origins place ≡ Some o) ⊎ ((place ≡ length origins) × (o ≡ origin)) → IsOrigin site class which start found place to o
      each_of place to o (inl here) (inl there) = rooted.each place to o here there
      each_of place to o (inr here) (inr there) =
          subst (λ p. IsOrigin site class which start found p to o) (sym here.0)
          (subst (λ y. IsOrigin site class which start found (length found) y o) (sym here.1)
          (subst (IsOrigin site class which start found (length found) x) (sym there.1) is))
      each_of place to o (inl here) (inr there) =
          let low = slice_get_within found place to here in
          let same = there.0 in
          let many = rooted.many in
          absurd (omega (arith, low, same, many))
      each_of place to o (inr here) (inl there) =
          let low = slice_get_within origins place o there in
          let same = here.0 in
          let many = rooted.many in
          absurd (omega (arith, low, same, many))

  -- the origin of what is found at a place
  pub origin_at : (found : List SiteInput) (origins : List (Option Origin)) → AreRooted site class which start found origins → (place : ℕ) (x : SiteInput)
      → slice_get found place ≡ Some x → (origin : Option Origin) × IsOrigin site class which start found place x origin
  origin_at found origins rooted place x is =
      let many = rooted.many in
      let within = slice_get_within found place x is in
      let low : place < length origins = omega (arith, many, within) in
      (get_or origins place None, rooted.each place x (get_or origins place None) is (slice_get-get_or origins place None low))

  pub go_back : (found : List SiteInput) (origins : List (Option Origin)) → AreRooted site class which start found origins → GoBack found origins
  go_back found origins rooted = record {
    many = rooted.many;
    before = λ place origin is.
        (let many = rooted.many in
        let within = slice_get_within origins place (Some origin) is in
        let low : place < length found = omega (arith, many, within) in
        let none : SiteInput = record { relay = 0; input = 0 } in
        (rooted.each place (get_or found place none) (Some origin) (slice_get-get_or found place none low) is).0);
  }

-- ---- where a hop leads

pub leads_origin : (site : Site) (class : Class) (which : Executed) (start found : List SiteInput) (from : SiteInput) (place : ℕ) (hops : List Hop) (hop : Hop)
    → AreHops site class which from.relay (list_of site from) hops → Contains hops hop → slice_get found place ≡ Some from
    → IsOrigin site class which start found (length found) hop.to (Some (record { place = place; row = record { input = from; number = hop.number } }))
leads_origin site class which start found from place hops hop are there here = (slice_get_within found place from here, here, are.sound hop there)
