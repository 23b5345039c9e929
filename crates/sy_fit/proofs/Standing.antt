-- Where the inner row of a list is wanted.
use Rattle.std.proofs.Common.{◌≡◌, ℕ, ◌<◌, ◌≤◌, ◌+◌, List, [], ◌∷◌, ◌++◌, length, get_or, Option, Some, None, refl, sym, subst, ◌∙◌, arith, inl, inr}
use Rattle.std.specs.Prelude.{AllPairs, All, map, slice_get}
use Rattle.std.proofs.lemmas.Bool.{cases_eq, cases_lt}
use Rattle.std.proofs.lemmas.List.Elements.{All-append, All-map, Contains-get_or}
use Rattle.std.proofs.lemmas.List.Kept.{AllPairs-cons}
use Rattle.std.proofs.lemmas.Option.{get_or_from_slice_get, slice_get-get_or, slice_get_within}
use Rattle.sy_wire.specs.declared.class.Class.{Class}
use Rattle.sy_site.specs.declared.site.SiteAction.{SiteAction}
use Rattle.sy_site.specs.declared.site.SiteInput.{SiteInput}
use Rattle.sy_site.specs.Sites.{Site, archives}
use Rattle.sy_flows.specs.declared.lists.InnerList.{InnerList}
use Rattle.sy_fit.specs.declared.rows.wanted.Wanted.{Wanted}
use Rattle.sy_fit.specs.declared.rows.wanted.Wanted.TheVariants as wanted
use Rattle.sy_fit.specs.Fit.{AreWanted, ComesBefore, paths}
use Rattle.sy_fit.specs.internal.Inners.{IsBeforeAt, IsBeforeInner}
use Rattle.sy_fit.proofs.Comparing.{from_flat, from_map, no_value, one_value}

-- of two wanted rows, of which the first stands earlier
abbrev Goes : Wanted → Wanted → Type 0
Goes x y = (inner : InnerList) → (y ≡ wanted.Inner inner → IsBeforeInner inner x) × (x ≡ wanted.Inner inner → IsBeforeInner inner y → ⊥)

-- ---- rows that stand before all inner rows

record IsFree (x : Wanted) : Type 0 where
  before : (inner : InnerList) → IsBeforeInner inner x
  none : (inner : InnerList) → x ≡ wanted.Inner inner → ⊥

free_goes : (x y : Wanted) → IsFree x → Goes x y
free_goes x y free inner = (λ is. free.before inner, λ is before. free.none inner is)

free_map : {A : Type 0} (f : A → Wanted) → ((a : A) → IsFree (f a)) → (xs : List A) (rest : List Wanted) → AllPairs Goes rest
    → AllPairs Goes (map f xs ++ rest)
free_map f free [] rest pairs = pairs
free_map f free (x ∷ xs) rest pairs =
    AllPairs-cons Goes (f x) (map f xs ++ rest) (λ k d low. free_goes (f x) (get_or (map f xs ++ rest) k d) (free x)) (free_map f free xs rest pairs)

-- ---- paths, which stand behind them

record IsPath (x : Wanted) : Type 0 where
  entry : SiteInput
  archive : SiteAction
  is : x ≡ wanted.Path entry archive

no_path : {entry : SiteInput} {archive : SiteAction} {inner : InnerList} → wanted.Path entry archive ≡ wanted.Inner inner → ⊥
no_path e = cc

path_goes : (x y : Wanted) → IsPath x → IsPath y → Goes x y
path_goes x y first second inner = (λ same. absurd (no_path (sym second.is ∙ same)), λ same before. no_path (sym first.is ∙ same))

all_paths : (xs : List Wanted) → All IsPath xs → AllPairs Goes xs
all_paths xs all i j d low high = path_goes (get_or xs i d) (get_or xs j d) (all i d (omega (arith, low, high))) (all j d high)

are_paths : (site : Site) (class : Class) → All IsPath (paths site class)
are_paths site class k d low =
    let is = get_or (paths site class) k d in
    let found = from_flat (λ e. map (λ a. wanted.Path e a) (archives site class)) site.entries is (Contains-get_or (paths site class) k d low) in
    let it = from_map (λ a. wanted.Path found.0 a) (archives site class) is found.2 in
    record { entry = found.0; archive = it.0; is = sym it.2 }

-- ---- inner rows

one_inner : {a b : InnerList} → wanted.Inner a ≡ wanted.Inner b → a ≡ b
one_inner e = cc

apart : (a b : InnerList) → ComesBefore a b → ComesBefore b a → ⊥
apart a b (inl low) (inl high) = omega (arith, low, high)
apart a b (inl low) (inr (same, high)) = omega (arith, low, same)
apart a b (inr (same, low)) (inl high) = omega (arith, same, high)
apart a b (inr (same, low)) (inr (other, high)) = omega (arith, low, high)

inner_goes : (x y : InnerList) → ComesBefore x y → Goes (wanted.Inner x) (wanted.Inner y)
inner_goes x y before inner = (
  λ same. subst (ComesBefore x) (one_inner same) before,
  λ same back. apart x y before (subst (ComesBefore y) (sym (one_inner same)) back),
)

inner_path : (x : InnerList) (y : Wanted) → IsPath y → Goes (wanted.Inner x) y
inner_path x y path inner = (
  λ same. absurd (no_path (sym path.is ∙ same)),
  λ same before. subst (IsBeforeInner inner) path.is before,
)

inner_pairs : (xs : List InnerList) (rest : List Wanted) → AllPairs ComesBefore xs → All IsPath rest → AllPairs Goes (map wanted.Inner xs ++ rest)
inner_pairs [] rest pairs all = all_paths rest all
inner_pairs (x ∷ xs) rest pairs all =
    AllPairs-cons Goes (wanted.Inner x) (map wanted.Inner xs ++ rest)
    (All-append (Goes (wanted.Inner x)) (map wanted.Inner xs) rest
    (All-map (Goes (wanted.Inner x)) wanted.Inner xs
    (λ k d low. inner_goes x (get_or xs k d) (pairs 0 (ℕ.suc k) d (omega arith) (omega (arith, low)))))
    (λ k d low. inner_path x (get_or rest k d) (all k d low)))
    (inner_pairs xs rest (λ i j d low high. pairs (ℕ.suc i) (ℕ.suc j) d (omega (arith, low)) (omega (arith, high))) all)

-- ---- the rows of a class

module _ (site : Site) (class : Class) (part : List Wanted) (are : AreWanted site class part) where
  part_goes : AllPairs Goes part
  part_goes =
      let inners = inner_pairs are.inners (paths site class) are.inners_posted.ordered (are_paths site class) in
      let ranks = free_map wanted.Rank (λ a. record { before = λ i. tt; none = λ i e. cc }) are.relays (map wanted.Inner are.inners ++ paths site class)
      inners in
      let branches = free_map wanted.Branch (λ a. record { before = λ i. tt; none = λ i e. cc }) are.branches _ ranks in
      let reached = free_map wanted.Reach (λ a. record { before = λ i. tt; none = λ i e. cc }) are.inputs _ branches in
      subst (AllPairs Goes) (sym are.whole)
      (AllPairs-cons Goes (wanted.Class class) _
      (λ k d low. free_goes (wanted.Class class) _ (record { before = λ i. tt; none = λ i e. cc })) reached)

  -- two rows that stand there
  goes_there : (first second : ℕ) (x y : Wanted) → slice_get part first ≡ Some x → slice_get part second ≡ Some y → first < second → Goes x y
  goes_there first second x y is other low =
      let pair = part_goes first second x low (slice_get_within part second y other) in
      subst (Goes x) (get_or_from_slice_get part second y x other)
      (subst (λ a. Goes a (get_or part second x)) (get_or_from_slice_get part first x x is) pair)

  -- behind a row that stands before the inner row of a list
  behind_row : (inner : InnerList) (middle place : ℕ) (x : Wanted) → slice_get part middle ≡ Some x → IsBeforeInner inner x
      → slice_get part place ≡ Some (wanted.Inner inner) → middle < place
  behind_row inner middle place x there before is = elim (cases_lt middle place) [
    | inl low ↦ low
    | inr high ↦ elim (cases_eq place middle) [
      | inl same ↦
          let here = one_value (sym there ∙ subst (λ p. slice_get part p ≡ Some (wanted.Inner inner)) same is) in
          let itself = subst (IsBeforeInner inner) here before in
          absurd (apart inner inner itself itself)
      | inr other ↦ absurd ((goes_there place middle (wanted.Inner inner) x is there (omega (arith, high, other)) inner).1 refl before)
    ]
  ]

  behind_found : (inner : InnerList) (middle place : ℕ) (found : Option Wanted) → slice_get part middle ≡ found → IsBeforeAt inner found
      → slice_get part place ≡ Some (wanted.Inner inner) → middle < place
  behind_found inner middle place (Some x) there before is = behind_row inner middle place x there before is
  behind_found inner middle place None there before is = absurd before

  pub behind : (inner : InnerList) (middle place : ℕ) → IsBeforeAt inner (slice_get part middle)
      → slice_get part place ≡ Some (wanted.Inner inner) → middle < place
  behind inner middle place before is = behind_found inner middle place (slice_get part middle) refl before is

  -- and not behind another one
  not_behind_found : (inner : InnerList) (middle place : ℕ) (found : Option Wanted) → slice_get part middle ≡ found → (IsBeforeAt inner found → ⊥)
      → slice_get part place ≡ Some (wanted.Inner inner) → place ≤ middle
  not_behind_found inner middle place (Some x) there none is = elim (cases_lt middle place) [
    | inl low ↦ absurd (none ((goes_there middle place x (wanted.Inner inner) there is low inner).0 refl))
    | inr high ↦ high
  ]
  not_behind_found inner middle place None there none is = elim (cases_lt middle place) [
    | inl low ↦
        let within = slice_get_within part place (wanted.Inner inner) is in
        absurd (no_value (sym there ∙ slice_get-get_or part middle (wanted.Inner inner) (omega (arith, low, within))))
    | inr high ↦ high
  ]

  pub not_behind : (inner : InnerList) (middle place : ℕ) → (IsBeforeAt inner (slice_get part middle) → ⊥)
      → slice_get part place ≡ Some (wanted.Inner inner) → place ≤ middle
  not_behind inner middle place none is = not_behind_found inner middle place (slice_get part middle) refl none is
