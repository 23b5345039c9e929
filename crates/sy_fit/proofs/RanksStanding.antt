-- Where the rank row of a relay is wanted.
use Rattle.std.proofs.Common.{◌≡◌, ℕ, ◌<◌, ◌≤◌, ◌+◌, List, [], ◌∷◌, ◌++◌, length, get_or, Option, Some, None, refl, sym, subst, ◌∙◌, arith, inl, inr}
use Rattle.std.specs.Prelude.{AllPairs, All, map, slice_get}
use Rattle.std.proofs.lemmas.Bool.{cases_eq, cases_lt}
use Rattle.std.proofs.lemmas.List.Elements.{All-append, All-map, Contains-get_or}
use Rattle.std.proofs.lemmas.List.Kept.{AllPairs-cons}
use Rattle.std.proofs.lemmas.Option.{get_or_from_slice_get, slice_get-get_or, slice_get_within}
use Rattle.sy_wire.specs.declared.class.Class.{Class}
use Rattle.sy_site.specs.Sites.{Site, archives}
use Rattle.sy_fit.specs.declared.rows.wanted.Wanted.{Wanted}
use Rattle.sy_fit.specs.declared.rows.wanted.Wanted.TheVariants as wanted
use Rattle.sy_fit.specs.Fit.{AreWanted, paths}
use Rattle.sy_fit.specs.internal.Ranked.{IsBeforeRank, IsBeforeRankAt}
use Rattle.sy_fit.proofs.Comparing.{from_flat, from_map, no_value, one_value}

-- of two wanted rows, of which the first stands earlier
abbrev Goes : Wanted → Wanted → Type 0
Goes x y = (relay : ℕ) → (y ≡ wanted.Rank relay → IsBeforeRank relay x) × (x ≡ wanted.Rank relay → IsBeforeRank relay y → ⊥)

-- ---- rows that stand before all rank rows

record IsFree (x : Wanted) : Type 0 where
  before : (relay : ℕ) → IsBeforeRank relay x
  none : (relay : ℕ) → x ≡ wanted.Rank relay → ⊥

free_goes : (x y : Wanted) → IsFree x → Goes x y
free_goes x y free relay = (λ is. free.before relay, λ is before. free.none relay is)

free_map : {A : Type 0} (f : A → Wanted) → ((a : A) → IsFree (f a)) → (xs : List A) (rest : List Wanted) → AllPairs Goes rest
    → AllPairs Goes (map f xs ++ rest)
free_map f free [] rest pairs = pairs
free_map f free (x ∷ xs) rest pairs =
    AllPairs-cons Goes (f x) (map f xs ++ rest) (λ k d low. free_goes (f x) (get_or (map f xs ++ rest) k d) (free x)) (free_map f free xs rest pairs)

-- ---- rows that stand behind them

record IsLater (x : Wanted) : Type 0 where
  behind : (relay : ℕ) → IsBeforeRank relay x → ⊥
  none : (relay : ℕ) → x ≡ wanted.Rank relay → ⊥

later_goes : (x y : Wanted) → IsLater x → IsLater y → Goes x y
later_goes x y first second relay = (λ same. absurd (second.none relay same), λ same before. first.none relay same)

all_later : (xs : List Wanted) → All IsLater xs → AllPairs Goes xs
all_later xs all i j d low high = later_goes (get_or xs i d) (get_or xs j d) (all i d (omega (arith, low, high))) (all j d high)

are_later : (site : Site) (class : Class) → All IsLater (paths site class)
are_later site class k d low =
    let is = get_or (paths site class) k d in
    let found = from_flat (λ e. map (λ a. wanted.Path e a) (archives site class)) site.entries is (Contains-get_or (paths site class) k d low) in
    let it = from_map (λ a. wanted.Path found.0 a) (archives site class) is found.2 in
    subst IsLater it.2 (record { behind = λ relay before. before; none = λ relay e. cc })

-- ---- rank rows

one_rank : {a b : ℕ} → wanted.Rank a ≡ wanted.Rank b → a ≡ b
one_rank e = cc

rank_goes : (x y : ℕ) → x < y → Goes (wanted.Rank x) (wanted.Rank y)
rank_goes x y low relay = (
  λ same. subst (λ r. x < r) (one_rank same) low,
  λ same before. (let is = one_rank same in omega (arith, low, before, is)),
)

rank_later : (x : ℕ) (y : Wanted) → IsLater y → Goes (wanted.Rank x) y
rank_later x y later relay = (λ same. absurd (later.none relay same), λ same before. later.behind relay before)

rank_pairs : (xs : List ℕ) (rest : List Wanted) → AllPairs ◌<◌ xs → All IsLater rest → AllPairs Goes (map wanted.Rank xs ++ rest)
rank_pairs [] rest pairs all = all_later rest all
rank_pairs (x ∷ xs) rest pairs all =
    AllPairs-cons Goes (wanted.Rank x) (map wanted.Rank xs ++ rest)
    (All-append (Goes (wanted.Rank x)) (map wanted.Rank xs) rest
    (All-map (Goes (wanted.Rank x)) wanted.Rank xs
    (λ k d low. rank_goes x (get_or xs k d) (pairs 0 (ℕ.suc k) d (omega arith) (omega (arith, low)))))
    (λ k d low. rank_later x (get_or rest k d) (all k d low)))
    (rank_pairs xs rest (λ i j d low high. pairs (ℕ.suc i) (ℕ.suc j) d (omega (arith, low)) (omega (arith, high))) all)

-- ---- the rows of a class

module _ (site : Site) (class : Class) (part : List Wanted) (are : AreWanted site class part) where
  rest_later : All IsLater (map wanted.Inner are.inners ++ paths site class)
  rest_later =
      All-append IsLater (map wanted.Inner are.inners) (paths site class)
      (All-map IsLater wanted.Inner are.inners (λ k d low. record { behind = λ relay before. before; none = λ relay e. cc }))
      (are_later site class)

  part_goes : AllPairs Goes part
  part_goes =
      let ranks = rank_pairs are.relays (map wanted.Inner are.inners ++ paths site class) are.relays_reached.ordered rest_later in
      let branches = free_map wanted.Branch (λ a. record { before = λ r. tt; none = λ r e. cc }) are.branches _ ranks in
      let reached = free_map wanted.Reach (λ a. record { before = λ r. tt; none = λ r e. cc }) are.inputs _ branches in
      subst (AllPairs Goes) (sym are.whole)
      (AllPairs-cons Goes (wanted.Class class) _
      (λ k d low. free_goes (wanted.Class class) _ (record { before = λ r. tt; none = λ r e. cc })) reached)

  -- two rows that stand there
  goes_there : (first second : ℕ) (x y : Wanted) → slice_get part first ≡ Some x → slice_get part second ≡ Some y → first < second → Goes x y
  goes_there first second x y is other low =
      let pair = part_goes first second x low (slice_get_within part second y other) in
      subst (Goes x) (get_or_from_slice_get part second y x other)
      (subst (λ a. Goes a (get_or part second x)) (get_or_from_slice_get part first x x is) pair)

  -- behind a row that stands before the rank row of a relay
  behind_row : (relay middle place : ℕ) (x : Wanted) → slice_get part middle ≡ Some x → IsBeforeRank relay x
      → slice_get part place ≡ Some (wanted.Rank relay) → middle < place
  behind_row relay middle place x there before is = elim (cases_lt middle place) [
    | inl low ↦ low
    | inr high ↦ elim (cases_eq place middle) [
      | inl same ↦
          let here = one_value (sym there ∙ subst (λ p. slice_get part p ≡ Some (wanted.Rank relay)) same is) in
          let itself : relay < relay = subst (IsBeforeRank relay) here before in
          absurd (omega (arith, itself))
      | inr other ↦ absurd ((goes_there place middle (wanted.Rank relay) x is there (omega (arith, high, other)) relay).1 refl before)
    ]
  ]

  behind_found : (relay middle place : ℕ) (found : Option Wanted) → slice_get part middle ≡ found → IsBeforeRankAt relay found
      → slice_get part place ≡ Some (wanted.Rank relay) → middle < place
  behind_found relay middle place (Some x) there before is = behind_row relay middle place x there before is
  behind_found relay middle place None there before is = absurd before

  pub behind : (relay middle place : ℕ) → IsBeforeRankAt relay (slice_get part middle)
      → slice_get part place ≡ Some (wanted.Rank relay) → middle < place
  behind relay middle place before is = behind_found relay middle place (slice_get part middle) refl before is

  -- and not behind another one
  not_behind_found : (relay middle place : ℕ) (found : Option Wanted) → slice_get part middle ≡ found → (IsBeforeRankAt relay found → ⊥)
      → slice_get part place ≡ Some (wanted.Rank relay) → place ≤ middle
  not_behind_found relay middle place (Some x) there none is = elim (cases_lt middle place) [
    | inl low ↦ absurd (none ((goes_there middle place x (wanted.Rank relay) there is low relay).0 refl))
    | inr high ↦ high
  ]
  not_behind_found relay middle place None there none is = elim (cases_lt middle place) [
    | inl low ↦
        let within = slice_get_within part place (wanted.Rank relay) is in
        absurd (no_value (sym there ∙ slice_get-get_or part middle (wanted.Rank relay) (omega (arith, low, within))))
    | inr high ↦ high
  ]

  pub not_behind : (relay middle place : ℕ) → (IsBeforeRankAt relay (slice_get part middle) → ⊥)
      → slice_get part place ≡ Some (wanted.Rank relay) → place ≤ middle
  not_behind relay middle place none is = not_behind_found relay middle place (slice_get part middle) refl none is
