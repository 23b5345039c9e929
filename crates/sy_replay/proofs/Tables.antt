-- The table of a site's targets says where each action leads to.
use Rattle.std.proofs.Common.{◌≡◌, ℕ, ◌<◌, ◌≤◌, ◌+◌, List, [], ◌∷◌, ◌++◌, Option, None, length, map, refl, sym, ap, arith, ◌∙◌, get_or, inl, inr, add-one}
use Rattle.std.specs.Prelude.{slice_get, ◌⊎◌}
use Rattle.std.proofs.lemmas.List.{length-append, map-append}
use Rattle.std.specs.Global.{Vec}
use Rattle.sy_site.specs.declared.site.SiteAction.{SiteAction}
use Rattle.sy_site.specs.declared.site.SiteInput.{SiteInput}
use Rattle.sy_site.specs.Sites.{Relay, Site, plan_at, plan_in, target, target_of}
use Rattle.sy_replay.specs.internal.Routes.{entry_in, first_of, row_of, rows_of, table_of, target_at}

pub one_more_of : {A : Type 0} (f : ℕ → A) (n : ℕ) → first_of f (n + 1) ≡ first_of f n ++ f n ∷ []
one_more_of f n = ap (first_of f) (add-one n)

length_of : {A : Type 0} (f : ℕ → A) (n : ℕ) → length (first_of f n) ≡ n
length_of f ℕ.zero = refl
length_of f (ℕ.suc n) = omega (arith, length-append (first_of f n) (f n ∷ []), length_of f n)

-- at its end, before it, and behind it
at_end : {A : Type 0} (xs : List A) (k : ℕ) (x d : A) → length xs ≡ k → get_or (xs ++ x ∷ []) k d ≡ x
at_end [] ℕ.zero x d l = refl
at_end [] (ℕ.suc k) x d l = absurd (omega (arith, l))
at_end (y ∷ ys) ℕ.zero x d l = absurd (omega (arith, l))
at_end (y ∷ ys) (ℕ.suc k) x d l = at_end ys k x d (omega (arith, l))

before_end : {A : Type 0} (xs : List A) (k : ℕ) (x d : A) → k < length xs → get_or (xs ++ x ∷ []) k d ≡ get_or xs k d
before_end [] k x d l = absurd (omega (arith, l))
before_end (y ∷ ys) ℕ.zero x d l = refl
before_end (y ∷ ys) (ℕ.suc k) x d l = before_end ys k x d (omega (arith, l))

behind_end : {A : Type 0} (xs : List A) (k : ℕ) (d : A) → length xs ≤ k → get_or xs k d ≡ d
behind_end [] k d l = refl
behind_end (y ∷ ys) ℕ.zero d l = absurd (omega (arith, l))
behind_end (y ∷ ys) (ℕ.suc k) d l = behind_end ys k d (omega (arith, l))

is_or_below : (k n : ℕ) → k < ℕ.suc n → (k < n) ⊎ (k ≡ n)
is_or_below ℕ.zero ℕ.zero l = inr refl
is_or_below ℕ.zero (ℕ.suc n) l = inl (omega (arith))
is_or_below (ℕ.suc k) ℕ.zero l = absurd (omega (arith, l))
is_or_below (ℕ.suc k) (ℕ.suc n) l = elim (is_or_below k n (omega (arith, l))) [ inl m ↦ inl (omega (arith, m)) | inr e ↦ inr (ap ℕ.suc e) ]

value_at : {A : Type 0} (f : ℕ → A) (n k : ℕ) (d : A) → k < n → get_or (first_of f n) k d ≡ f k
value_at f ℕ.zero k d l = absurd (omega (arith, l))
value_at f (ℕ.suc n) k d l = elim (is_or_below k n l) [
  | inl m ↦ before_end (first_of f n) k (f n) d (omega (arith, m, length_of f n)) ∙ value_at f n k d m
  | inr e ↦ at_end (first_of f n) k (f n) d (length_of f n ∙ sym e) ∙ ap f (sym e)
]

within_or_behind : (k n : ℕ) → (k < n) ⊎ (n ≤ k)
within_or_behind k ℕ.zero = inr (omega (arith))
within_or_behind ℕ.zero (ℕ.suc n) = inl (omega (arith))
within_or_behind (ℕ.suc k) (ℕ.suc n) = elim (within_or_behind k n) [ inl l ↦ inl (omega (arith, l)) | inr l ↦ inr (omega (arith, l)) ]

get_none : {A : Type 0} (xs : List A) (k : ℕ) → length xs ≤ k → slice_get xs k ≡ None
get_none [] k l = refl
get_none (x ∷ xs) ℕ.zero l = absurd (omega (arith, l))
get_none (x ∷ xs) (ℕ.suc k) l = get_none xs k (omega (arith, l))

-- an action that isn't there leads nowhere
no_action : (site : Site) (relay action : ℕ) → length (plan_at site relay).actions ≤ action → target_at site relay action ≡ None
no_action site relay action l = ap (target_of site) (get_none (plan_at site relay).actions action l)

row_says : (site : Site) (relay action : ℕ) → get_or (row_of site relay) action None ≡ target_at site relay action
row_says site relay action = elim (within_or_behind action (length (plan_at site relay).actions)) [
  | inl l ↦ value_at (target_at site relay) (length (plan_at site relay).actions) action None l
  | inr l ↦ behind_end (row_of site relay) action None (omega (arith, l, length_of (target_at site relay) (length (plan_at site relay).actions)))
      ∙ sym (no_action site relay action l)
]

-- of a relay that isn't there too
pub table_says : (site : Site) (link : SiteAction) → entry_in (table_of site) link ≡ target site link
table_says site link = elim (within_or_behind link.relay (length site.relays)) [
  | inl l ↦ ap (λ (row : List (Option SiteInput)). get_or row link.action None) (value_at (row_of site) (length site.relays) link.relay [] l)
      ∙ row_says site link.relay link.action
  | inr l ↦ ap (λ (row : List (Option SiteInput)). get_or row link.action None)
      (behind_end (table_of site) link.relay [] (omega (arith, l, length_of (row_of site) (length site.relays))))
      ∙ sym (ap (λ (found : Option Relay). target_of site (slice_get (plan_in found).actions link.action)) (get_none site.relays link.relay l))
]

pub rows_more : (rows : List (Vec (Option SiteInput))) (row : Vec (Option SiteInput)) (more : List (Vec (Option SiteInput))) → more ≡ rows ++ row ∷ []
    → rows_of more ≡ rows_of rows ++ row.items ∷ []
rows_more rows row more is = ap rows_of is ∙ map-append (λ (v : Vec (Option SiteInput)). v.items) rows (row ∷ [])
