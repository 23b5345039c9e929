-- Ranks that stand where they are wanted.
use Rattle.std.proofs.Common.{[], ◌≡◌, ℕ, ◌<◌, ◌≤◌, ◌+◌, Bool, true, false, ◌==◌, if◌then◌else◌, List, ◌∷◌, ◌++◌, length, map, take, get_or, Option, Some, None, refl, sym, ap, subst, ◌∙◌, arith, inl, inr, eqb-true, eq-eqb}
use Rattle.std.specs.Prelude.{Contains, ◌⊎◌, IfSome, flat_map, slice_get}
use Rattle.std.specs.List.{list_any}
use Rattle.std.specs.Str.{bytes_eq}
use Rattle.std.proofs.lemmas.List.{take_all, take_more}
use Rattle.std.proofs.lemmas.List.Elements.{Contains-append_cases, Contains-append_left, Contains-append_right, Contains-push_cases}
use Rattle.std.proofs.lemmas.Map.Views.{Contains-from_any}
use Rattle.std.proofs.lemmas.Option.{slice_get_within}
use Rattle.std.proofs.lemmas.Slice.Eq.{bytes_eq-Decides}
use Rattle.sy_wire.specs.declared.class.Class.{Class}
use Rattle.sy_cert.specs.declared.row.Row.{Row}
use Rattle.sy_cert.specs.declared.row.Row.TheVariants as row
use Rattle.sy_board.specs.relay.Spares.{Scope}
use Rattle.sy_site.specs.declared.site.SiteInput.{SiteInput}
use Rattle.sy_site.specs.Sites.{Site, archives}
use Rattle.sy_site.specs.machine.Lawful.{IsLawful}
use Rattle.sy_site.specs.machine.Reach.{Reach, list_of}
use Rattle.sy_site.proofs.machine.Spares.{reach_every}
use Rattle.sy_fit.specs.Fit.{AreWanted, HasRank, IsAbove, IsBranch, IsInner, IsReached, paths}
use Rattle.sy_site.specs.Names.{name_of}
use Rattle.sy_flows.specs.Hops.{AreHops}
use Rattle.sy_flows.specs.Members.{same_input}
use Rattle.sy_fit.specs.internal.Ranked.{FallsAt, FallsFrom, IsBelow, IsBelowAt, IsInputThere, input_in, rank_at}
use Rattle.sy_flows.specs.declared.flows.executed.Executed.TheVariants as executed
use Rattle.sy_flows.specs.declared.flows.Hop.{Hop}
use Rattle.sy_fit.specs.declared.rows.wanted.Wanted.{Wanted}
use Rattle.sy_fit.specs.declared.rows.wanted.Wanted.TheVariants as wanted
use Rattle.sy_flows.proofs.Places.{at_place}
use Rattle.sy_fit.proofs.FitIsSound.{in_map, one_behind}
use Rattle.sy_flows.proofs.FoundInputs.{not_among, same_is}
use Rattle.sy_flows.proofs.There.{reach_there}

pub no_value : {A : Type 0} {x : A} → None ≡ Some x → ⊥
no_value e = cc

pub one_value : {A : Type 0} {x y : A} → Some x ≡ Some y → x ≡ y
one_value e = cc

if_true : {A : Type 0} (b : Bool) (x y : A) → b ≡ true → (if b then x else y) ≡ x
if_true true x y e = refl
if_true false x y e = cc

-- ---- one place
module _ (site : Site) (part : List Wanted) (rows : List Row) (relay : ℕ) where
  pub rank_stands : (below : ℕ) (has : HasRank site part rows relay below) → rank_at site relay (slice_get part has.place) (slice_get rows has.place) ≡ Some below
  rank_stands below has =
      ap (λ is. rank_at site relay is (slice_get rows has.place)) has.is_wanted
      ∙ ap (λ r. rank_at site relay (Some (wanted.Rank relay)) r) has.stands
      ∙ if_true (relay == relay) (if bytes_eq (name_of site relay) (name_of site relay) then Some below else None) None (eq-eqb relay relay refl)
      ∙ if_true (bytes_eq (name_of site relay) (name_of site relay)) (Some below) None ((bytes_eq-Decides (name_of site relay) (name_of site relay)).1 refl)

  by_tests : (place of below rank : ℕ) (name : List ℕ) → slice_get part place ≡ Some (wanted.Rank of) → slice_get rows place ≡ Some (row.Rank name rank)
      → (a b : Bool) → (of == relay) ≡ a → bytes_eq name (name_of site relay) ≡ b → (if a then (if b then Some rank else None) else None) ≡ Some below
      → HasRank site part rows relay below
  by_tests place of below rank name is there true true same named e = record {
    place = place;
    is_wanted = is ∙ ap (λ r. Some (wanted.Rank r)) (eqb-true of relay same);
    stands = there ∙ ap (λ n. Some (row.Rank n rank)) ((bytes_eq-Decides name (name_of site relay)).0 named)
        ∙ ap (λ n. Some (row.Rank (name_of site relay) n)) (one_value e);
  }
  by_tests place of below rank name is there true false same named e = absurd (no_value e)
  by_tests place of below rank name is there false b same named e = absurd (no_value e)

  none_by : (a : Bool) (below : ℕ) → (if a then None else None) ≡ Some below → ⊥
  none_by true below e = no_value e
  none_by false below e = no_value e

  stands_by : (place below : ℕ) (is : Option Wanted) (r : Option Row) → slice_get part place ≡ is → slice_get rows place ≡ r
      → rank_at site relay is r ≡ Some below → HasRank site part rows relay below
  stands_by place below None r is there e = absurd (no_value e)
  stands_by place below (Some w) None is there e = absurd (no_value e)
  stands_by place below (Some (wanted.Rank of)) (Some (row.Rank name rank)) is there e =
      by_tests place of below rank name is there (of == relay) (bytes_eq name (name_of site relay)) refl refl e
  stands_by place below (Some (wanted.Rank of)) (Some (row.Class c)) is there e = absurd (none_by (of == relay) below e)
  stands_by place below (Some (wanted.Rank of)) (Some (row.Reach name port)) is there e = absurd (none_by (of == relay) below e)
  stands_by place below (Some (wanted.Rank of)) (Some (row.Branch name port)) is there e = absurd (none_by (of == relay) below e)
  stands_by place below (Some (wanted.Rank of)) (Some (row.Inner name list number)) is there e = absurd (none_by (of == relay) below e)
  stands_by place below (Some (wanted.Rank of)) (Some (row.Path name port archive_relay action occurrences)) is there e =
      absurd (none_by (of == relay) below e)
  stands_by place below (Some (wanted.Class c)) (Some r) is there e = absurd (no_value e)
  stands_by place below (Some (wanted.Reach input)) (Some r) is there e = absurd (no_value e)
  stands_by place below (Some (wanted.Branch input)) (Some r) is there e = absurd (no_value e)
  stands_by place below (Some (wanted.Inner inner)) (Some r) is there e = absurd (no_value e)
  stands_by place below (Some (wanted.Path entry archive)) (Some r) is there e = absurd (no_value e)

  pub below_there : (rank place : ℕ) → IsBelow site part rows relay rank → IsBelowAt site part rows relay rank place
  below_there rank place all below e = all below (stands_by place below (slice_get part place) (slice_get rows place) refl refl e)

  -- its row is wanted there alone
  pub below_one : (rank place : ℕ) → ((other : ℕ) → slice_get part other ≡ Some (wanted.Rank relay) → other ≡ place)
      → IsBelowAt site part rows relay rank place → IsBelow site part rows relay rank
  below_one rank place only at below has =
      at below (subst (λ p. rank_at site relay (slice_get part p) (slice_get rows p) ≡ Some below) (only has.place has.is_wanted)
      (rank_stands below has))

-- all relays that these hops lead to are of ranks below
abbrev pub AreBelow : Site → List Wanted → List Row → ℕ → List Hop → Type 0
AreBelow site part rows rank hops = (hop : Hop) → Contains hops hop → IsBelow site part rows hop.to.relay rank

module _ (site : Site) (part : List Wanted) (rows : List Row) (rank : ℕ) (hops : List Hop) where
  pub none_below : AreBelow site part rows rank (take 0 hops)
  none_below hop (k, low, is) = absurd (omega (arith, low))

  pub hop_below : (k : ℕ) (hop : Hop) → k < length hops → hop ≡ get_or hops k hop → AreBelow site part rows rank (take k hops)
      → IsBelow site part rows hop.to.relay rank → AreBelow site part rows rank (take (k + 1) hops)
  hop_below k hop low is before here x there =
      elim (Contains-push_cases (take k hops) (get_or hops k hop) x (subst (λ l. Contains l x) (take_more hops k hop low) there)) [
        | inl earlier ↦ before x earlier
        | inr last ↦ subst (λ (h : Hop). IsBelow site part rows h.to.relay rank) (is ∙ last) here
      ]

  pub hops_below : (k : ℕ) → length hops ≤ k → AreBelow site part rows rank (take k hops) → AreBelow site part rows rank hops
  hops_below k all below hop there = below hop (subst (λ l. Contains l hop) (sym (take_all k hops all)) there)

  -- where an input's hops lead, and where its occurrences do
  pub falls_by_hops : (class : Class) (from : SiteInput) → AreHops site class executed.Every from.relay (list_of site from) hops
      → AreBelow site part rows rank hops → FallsFrom site class part rows rank from
  falls_by_hops class from are below to number goes =
      let hop = are.whole number to goes in
      subst (λ (x : SiteInput). IsBelow site part rows x.relay rank) hop.2 (below hop.0 hop.1)

  pub hops_by_falls : (class : Class) (from : SiteInput) → AreHops site class executed.Every from.relay (list_of site from) hops
      → FallsFrom site class part rows rank from → AreBelow site part rows rank hops
  hops_by_falls class from are falls hop there = falls hop.to hop.number (are.sound hop there).1

-- the relay that is known
pub known_below : (site : Site) (part : List Wanted) (rows : List Row) (rank : ℕ) (known : Option ℕ) (relay : ℕ)
    → IfSome known (λ r. IsBelow site part rows r rank) → known ≡ Some relay → IsBelow site part rows relay rank
known_below site part rows rank (Some r) relay below same = subst (λ x. IsBelow site part rows x rank) (one_value same) below
known_below site part rows rank None relay below same = absurd (no_value same)

-- ---- what is wanted, is there
pub from_map : {A B : Type 0} (f : A → B) (xs : List A) (y : B) → Contains (map f xs) y → (x : A) × Contains xs x × (f x ≡ y)
from_map f [] y (k, low, is) = absurd (omega (arith, low))
from_map f (x ∷ xs) y (ℕ.zero, low, is) = (x, (0, omega arith, refl), is)
from_map f (x ∷ xs) y (ℕ.suc k, low, is) =
    let found = from_map f xs y (k, omega (arith, low), is) in
    (found.0, one_behind x xs found.0 found.1, found.2)

pub from_flat : {A B : Type 0} (f : A → List B) (xs : List A) (y : B) → Contains (flat_map f xs) y → (x : A) × Contains xs x × Contains (f x) y
from_flat f [] y (k, low, is) = absurd (omega (arith, low))
from_flat f (x ∷ xs) y there =
    elim (Contains-append_cases (f x) (flat_map f xs) y there) [
      | inl here ↦ (x, (0, omega arith, refl), here)
      | inr later ↦
          let found = from_flat f xs y later in
          (found.0, one_behind x xs found.0 found.1, found.2)
    ]

-- the input that a row of an input is about
pub is_about : (is : Wanted) (from : SiteInput) → (is ≡ wanted.Reach from) ⊎ (is ≡ wanted.Branch from) → input_in is ≡ Some from
is_about is from either = elim either [
  | inl reach ↦ ap input_in reach
  | inr branch ↦ ap input_in branch
]

abbrev pub IsMeant : Site → Class → Wanted → Type 0
IsMeant site class (wanted.Class c) = c ≡ class
IsMeant site class (wanted.Reach input) = Reach site class Scope.Firm input
IsMeant site class (wanted.Branch input) = IsBranch site class input
IsMeant site class (wanted.Rank relay) = IsReached site class relay
IsMeant site class (wanted.Inner inner) = IsInner site class inner
IsMeant site class (wanted.Path entry archive) = Contains site.entries entry × Contains (archives site class) archive

module _ (site : Site) (class : Class) (part : List Wanted) (are : AreWanted site class part) where
  in_paths : (is : Wanted) → Contains (paths site class) is → IsMeant site class is
  in_paths is there =
      let found = from_flat (λ e. map (λ a. wanted.Path e a) (archives site class)) site.entries is there in
      let it = from_map (λ a. wanted.Path found.0 a) (archives site class) is found.2 in
      subst (IsMeant site class) it.2 (found.1, it.1)

  abbrev behind_ranks : List Wanted
  behind_ranks = map wanted.Inner are.inners ++ paths site class

  abbrev behind_branches : List Wanted
  behind_branches = map wanted.Rank are.relays ++ behind_ranks

  abbrev behind_inputs : List Wanted
  behind_inputs = map wanted.Branch are.branches ++ behind_branches

  in_inners : (is : Wanted) → Contains behind_ranks is → IsMeant site class is
  in_inners is there =
      elim (Contains-append_cases (map wanted.Inner are.inners) (paths site class) is there) [
        | inl inner ↦
            let it = from_map wanted.Inner are.inners is inner in
            subst (IsMeant site class) it.2 ((are.inners_posted.member it.0).0 it.1)
        | inr path ↦ in_paths is path
      ]

  in_ranks : (is : Wanted) → Contains behind_branches is → IsMeant site class is
  in_ranks is there =
      elim (Contains-append_cases (map wanted.Rank are.relays) behind_ranks is there) [
        | inl rank ↦
            let it = from_map wanted.Rank are.relays is rank in
            subst (IsMeant site class) it.2 ((are.relays_reached.member it.0).0 it.1)
        | inr later ↦ in_inners is later
      ]

  in_branches : (is : Wanted) → Contains behind_inputs is → IsMeant site class is
  in_branches is there =
      elim (Contains-append_cases (map wanted.Branch are.branches) behind_branches is there) [
        | inl branch ↦
            let it = from_map wanted.Branch are.branches is branch in
            subst (IsMeant site class) it.2 ((are.branches_reached.member it.0).0 it.1)
        | inr later ↦ in_ranks is later
      ]

  abbrev behind : List Wanted
  behind = map wanted.Reach are.inputs ++ behind_inputs

  in_rest : (is : Wanted) → Contains behind is → IsMeant site class is
  in_rest is there =
      elim (Contains-append_cases (map wanted.Reach are.inputs) behind_inputs is there) [
        | inl reach ↦
            let it = from_map wanted.Reach are.inputs is reach in
            subst (IsMeant site class) it.2 ((are.inputs_reached.member it.0).0 it.1)
        | inr later ↦ in_branches is later
      ]

  in_whole : (is : Wanted) → Contains (wanted.Class class ∷ behind) is → IsMeant site class is
  in_whole is (ℕ.zero, low, same) = subst (IsMeant site class) same refl
  in_whole is (ℕ.suc k, low, same) = in_rest is (k, omega (arith, low), same)

  pub meant : (is : Wanted) → Contains part is → IsMeant site class is
  meant is there = in_whole is (subst (λ l. Contains l is) are.whole there)

  -- the input of a wanted row is reached
  meant_every : (is : Wanted) → IsMeant site class is → (from : SiteInput) → input_in is ≡ Some from → Reach site class Scope.Every from
  meant_every (wanted.Class c) m from same = absurd (no_value same)
  meant_every (wanted.Reach input) m from same = subst (Reach site class Scope.Every) (one_value same) (reach_every site class input m)
  meant_every (wanted.Branch input) m from same = subst (Reach site class Scope.Every) (one_value same) m.reached
  meant_every (wanted.Rank relay) m from same = absurd (no_value same)
  meant_every (wanted.Inner inner) m from same = absurd (no_value same)
  meant_every (wanted.Path entry archive) m from same = absurd (no_value same)

  pub input_reached : (is : Wanted) → Contains part is → (from : SiteInput) → input_in is ≡ Some from → Reach site class Scope.Every from
  input_reached is there from same = meant_every is (meant is there) from same

  pub input_there : IsLawful site → (is : Wanted) → Contains part is → IsInputThere site is
  input_there law is there from same = reach_there site law class Scope.Every from (input_reached is there from same)

  -- each reached input has a row
  pub record HasRow (from : SiteInput) : Type 0 where
    pub place : ℕ
    pub is : Wanted
    pub stands : slice_get part place ≡ Some is
    pub about : input_in is ≡ Some from

  row_of : (from : SiteInput) (is : Wanted) → Contains behind is → input_in is ≡ Some from → HasRow from
  row_of from is there about =
      let at = at_place part is (subst (λ l. Contains l is) (sym are.whole) (one_behind (wanted.Class class) behind is there)) in
      record { place = at.0; is = is; stands = at.1; about = about }

  reach_row : (from : SiteInput) → Contains are.inputs from → HasRow from
  reach_row from there =
      row_of from (wanted.Reach from)
      (Contains-append_left (map wanted.Reach are.inputs) behind_inputs (wanted.Reach from)
      (in_map wanted.Reach are.inputs from there))
      refl

  branch_row : (from : SiteInput) → Contains are.branches from → HasRow from
  branch_row from there =
      row_of from (wanted.Branch from)
      (Contains-append_right (map wanted.Reach are.inputs) behind_inputs (wanted.Branch from)
      (Contains-append_left (map wanted.Branch are.branches) behind_branches (wanted.Branch from)
      (in_map wanted.Branch are.branches from there)))
      refl

  has_row : (from : SiteInput) → Reach site class Scope.Every from → HasRow from
  has_row from reach = by_test (list_any (same_input from) are.inputs) refl
    where
      by_test : (b : Bool) → list_any (same_input from) are.inputs ≡ b → HasRow from
      by_test true among = reach_row from (Contains-from_any same_is from are.inputs among)
      by_test false none =
          branch_row from ((are.branches_reached.member from).1
          (record { reached = reach; rest = λ firm. not_among are.inputs from none ((are.inputs_reached.member from).1 firm) }))

  -- where each wanted row's input was looked at, all were
  pub above_all : (rows : List Row) (relay rank most : ℕ) → length part ≤ most
      → ((k : ℕ) (is : Wanted) → k < most → slice_get part k ≡ Some is → FallsAt site class part rows relay rank is)
      → IsAbove site class part rows relay rank
  above_all rows relay rank most all each from to number below same reach goes has =
      let row = has_row from reach in
      let low = slice_get_within part row.place row.is row.stands in
      each row.place row.is (omega (arith, low, all)) row.stands from row.about same to number goes below has

  pub above_at : (rows : List Row) (relay rank : ℕ) → IsAbove site class part rows relay rank → (is : Wanted) → Contains part is
      → FallsAt site class part rows relay rank is
  above_at rows relay rank above is there from same of to number goes below has =
      above from to number below of (input_reached is there from same) goes has
