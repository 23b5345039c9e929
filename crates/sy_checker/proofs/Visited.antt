-- Inputs of a list that are visited one after another.
use Rattle.std.proofs.Common.{◌≡◌, ℕ, ◌<◌, ◌≤◌, ◌+◌, Bool, ◌==◌, ◌||◌, List, [], ◌∷◌, length, take, get_or, refl, sym, ap, subst, ◌∙◌, arith, inl, inr, eqb, eqb-true}
use Rattle.std.specs.Prelude.{Contains, Decides}
use Rattle.std.specs.List.{list_any}
use Rattle.std.proofs.lemmas.Cmp.{nat_eq_equiv}
use Rattle.std.proofs.lemmas.List.{take_all, take_more}
use Rattle.std.proofs.lemmas.List.Elements.{Contains-push_cases}
use Rattle.std.proofs.lemmas.Map.Views.{Contains-from_any, list_any-from_Contains}
use Rattle.sy_site.specs.declared.site.SiteInput.{SiteInput}
use Rattle.sy_site.specs.declared.finding.WayRow.{WayRow}
use Rattle.sy_checker.specs.internal.Loops.{relays_of, way_of}

-- ---- of those with P

pub visited_none : (P : SiteInput → Type 0) (xs done : List SiteInput) (x : SiteInput) → Contains (take 0 xs) x → P x → Contains done x
visited_none P xs done x (k, low, is) p = absurd (omega (arith, low))

pub visited_more : (P : SiteInput → Type 0) (xs : List SiteInput) (k : ℕ) (item : SiteInput) (old new : List SiteInput) → k < length xs
    → item ≡ get_or xs k item → ((x : SiteInput) → Contains old x → Contains new x)
    → ((x : SiteInput) → Contains (take k xs) x → P x → Contains old x) → (P item → Contains new item)
    → (x : SiteInput) → Contains (take (k + 1) xs) x → P x → Contains new x
visited_more P xs k item old new low is kept before here x there p =
    elim (Contains-push_cases (take k xs) (get_or xs k item) x (subst (λ l. Contains l x) (take_more xs k item low) there)) [
      | inl earlier ↦ kept x (before x earlier p)
      | inr last ↦ let same : item ≡ x = is ∙ last in subst (Contains new) same (here (subst P (sym same) p))
    ]

pub visited_all : (P : SiteInput → Type 0) (xs : List SiteInput) (k : ℕ) (done : List SiteInput) → length xs ≤ k
    → ((x : SiteInput) → Contains (take k xs) x → P x → Contains done x) → (x : SiteInput) → Contains xs x → P x → Contains done x
visited_all P xs k done all visited x there p = visited x (subst (λ l. Contains l x) (sym (take_all k xs all)) there) p

-- ---- numbers in a list

any_relay : (way : List WayRow) (relay : ℕ) → list_any (λ row. relay == row.input.relay) way ≡ list_any (eqb relay) (relays_of (way_of way))
any_relay [] relay = refl
any_relay (row ∷ way) relay = ap (λ b. (relay == row.input.relay) || b) (any_relay way relay)

number_in : (xs : List ℕ) (x : ℕ) (found : Bool) → found ≡ list_any (eqb x) xs → Decides found (Contains xs x)
number_in xs x found is = (
  λ yes. Contains-from_any (λ a b e. eqb-true a b e) x xs (sym is ∙ yes),
  λ there. is ∙ list_any-from_Contains nat_eq_equiv x xs there,
)

pub met_decides : (way : List WayRow) (relay : ℕ) (found : Bool) → found ≡ list_any (λ row. relay == row.input.relay) way
    → Decides found (Contains (relays_of (way_of way)) relay)
met_decides way relay found is = number_in (relays_of (way_of way)) relay found (is ∙ any_relay way relay)
