-- A site with a fit certificate is sound.
use Rattle.std.proofs.Common.{[], ◌≡◌, ℕ, suc, ◌<◌, List, ◌∷◌, ◌++◌, Some, map, length, drop, refl, sym, ap, subst, arith, ◌∙◌, inl, inr}
use Rattle.std.specs.Prelude.{Contains, ◌⊎◌, flat_map, slice_get}
use Rattle.std.proofs.lemmas.Bool.{cases_eq}
use Rattle.std.proofs.lemmas.List.Elements.{Contains-append_left, Contains-append_right}
use Rattle.sy_wire.specs.declared.class.Class.{Class}
use Rattle.sy_cert.specs.declared.row.Row.{Row}
use Rattle.sy_cert.specs.declared.row.Row.TheVariants as row
use Rattle.sy_site.specs.declared.site.SiteAction.{SiteAction}
use Rattle.sy_site.specs.declared.site.SiteInput.{SiteInput}
use Rattle.sy_site.specs.Sites.{Site, archives}
use Rattle.sy_board.specs.relay.Spares.{Scope}
use Rattle.sy_site.specs.machine.Findings.{HoldsAt, IsInnerLoop, Kind}
use Rattle.sy_site.specs.machine.Reach.{LeadsTo, Reach, Reaches, list_of}
use Rattle.sy_site.specs.machine.Soundness.{IsSound, IsSoundFor}
use Rattle.sy_fit.specs.Fit.{AreFit, AreRight, AreWanted, HasNumber, HasRank, IsAbove, IsClean, IsFit, IsInner, IsNumbered, IsRight, paths}
use Rattle.sy_site.specs.Names.{name_of}
use Rattle.sy_flows.specs.declared.lists.InnerList.{InnerList}
use Rattle.sy_fit.specs.declared.rows.wanted.Wanted.{Wanted}
use Rattle.sy_fit.specs.declared.rows.wanted.Wanted.TheVariants as wanted
use Rattle.sy_fit.proofs.InnerLists.{no_inner_loop}
use Rattle.sy_fit.proofs.PathsLead.{path_leads}
use Rattle.sy_flows.proofs.Places.{at_place}

pub one_behind : {A : Type 0} (x : A) (xs : List A) (y : A) → Contains xs y → Contains (x ∷ xs) y
one_behind x xs y (k, low, is) = (suc k, omega (arith, low), is)

pub in_map : {A B : Type 0} (f : A → B) (xs : List A) (x : A) → Contains xs x → Contains (map f xs) (f x)
in_map f [] x (k, low, is) = absurd (omega (arith, low))
in_map f (y ∷ ys) x (ℕ.zero, low, is) = (0, omega arith, ap f is)
in_map f (y ∷ ys) x (ℕ.suc k, low, is) =
    let later = in_map f ys x (k, omega (arith, low), is) in
    one_behind (f y) (map f ys) (f x) later

pub in_flat : {A B : Type 0} (f : A → List B) (xs : List A) (x : A) (y : B) → Contains xs x → Contains (f x) y → Contains (flat_map f xs) y
in_flat f [] x y (k, low, is) there = absurd (omega (arith, low))
in_flat f (z ∷ zs) x y (ℕ.zero, low, is) there =
    Contains-append_left (f z) (flat_map f zs) y (subst (λ v. Contains (f v) y) (sym is) there)
in_flat f (z ∷ zs) x y (ℕ.suc k, low, is) there =
    Contains-append_right (f z) (flat_map f zs) y (in_flat f zs x y (k, omega (arith, low), is) there)

not_in : (y : ℕ) (ys : List ℕ) (x : ℕ) → (y ≡ x → ⊥) → (Contains ys x → ⊥) → Contains (y ∷ ys) x → ⊥
not_in y ys x apart none (ℕ.zero, low, is) = apart is
not_in y ys x apart none (ℕ.suc k, low, is) = none (k, omega (arith, low), is)

none_in : (x : ℕ) → Contains [] x → ⊥
none_in x (k, low, is) = absurd (omega (arith, low))

-- whether a number is in a list
has : (xs : List ℕ) (x : ℕ) → Contains xs x ⊎ (Contains xs x → ⊥)
has [] x = inr (none_in x)
has (y ∷ ys) x =
    elim (cases_eq y x) [
      | inl same ↦ inl (0, omega arith, same)
      | inr apart ↦ elim (has ys x) [
        | inl there ↦ inl (one_behind y ys x there)
        | inr none ↦ inr (not_in y ys x apart none)
      ]
    ]

-- ---- the rows of a class
record RankRow (site : Site) (class : Class) (part : List Wanted) (rows : List Row) (relay : ℕ) : Type 0 where
  pub rank : ℕ
  pub stands : HasRank site part rows relay rank
  pub above : IsAbove site class part rows relay rank

record InnerRow (site : Site) (class : Class) (part : List Wanted) (rows : List Row) (inner : InnerList) : Type 0 where
  pub number : ℕ
  pub stands : HasNumber site part rows inner number
  pub numbered : IsNumbered site class part rows inner number

module _ (site : Site) (class : Class) (part : List Wanted) (rows : List Row) where
  reach_row : (input : SiteInput) (r : Row) → IsRight site class part rows (wanted.Reach input) r → IsClean site class input
  reach_row input (row.Reach relay port) right = right.2
  reach_row input (row.Class given) right = absurd right
  reach_row input (row.Branch relay port) right = absurd right
  reach_row input (row.Rank relay rank) right = absurd right
  reach_row input (row.Inner relay list number) right = absurd right
  reach_row input (row.Path relay port archive_relay action occurrences) right = absurd right

  rank_row : (relay place : ℕ) → slice_get part place ≡ Some (wanted.Rank relay) → (r : Row) → slice_get rows place ≡ Some r
      → IsRight site class part rows (wanted.Rank relay) r → RankRow site class part rows relay
  rank_row relay place is (row.Rank name rank) there right = record {
    rank = rank;
    stands = record { place = place; is_wanted = is; stands = there ∙ ap (λ n. Some (row.Rank n rank)) right.0 };
    above = right.1;
  }
  rank_row relay place is (row.Class given) there right = absurd right
  rank_row relay place is (row.Reach name port) there right = absurd right
  rank_row relay place is (row.Branch name port) there right = absurd right
  rank_row relay place is (row.Inner name list number) there right = absurd right
  rank_row relay place is (row.Path name port archive_relay action occurrences) there right = absurd right

  inner_row : (inner : InnerList) (place : ℕ) → slice_get part place ≡ Some (wanted.Inner inner) → (r : Row) → slice_get rows place ≡ Some r
      → IsRight site class part rows (wanted.Inner inner) r → InnerRow site class part rows inner
  inner_row inner place is (row.Inner name list number) there right = record {
    number = number;
    stands = record {
      place = place;
      is_wanted = is;
      stands = there ∙ ap (λ n. Some (row.Inner n list number)) right.0 ∙ ap (λ l. Some (row.Inner (name_of site inner.relay) l number)) right.1;
    };
    numbered = right.2;
  }
  inner_row inner place is (row.Class given) there right = absurd right
  inner_row inner place is (row.Reach name port) there right = absurd right
  inner_row inner place is (row.Branch name port) there right = absurd right
  inner_row inner place is (row.Rank name rank) there right = absurd right
  inner_row inner place is (row.Path name port archive_relay action occurrences) there right = absurd right

  path_row : (entry : SiteInput) (archive : SiteAction) (r : Row) → IsRight site class part rows (wanted.Path entry archive) r
      → LeadsTo site class archive entry
  path_row entry archive (row.Path relay port archive_relay action occurrences) right =
      path_leads site class archive entry.relay (list_of site entry) occurrences right.4
  path_row entry archive (row.Class given) right = absurd right
  path_row entry archive (row.Reach relay port) right = absurd right
  path_row entry archive (row.Branch relay port) right = absurd right
  path_row entry archive (row.Rank relay rank) right = absurd right
  path_row entry archive (row.Inner relay list number) right = absurd right

-- ---- what a class's rows show
module _ (site : Site) (class : Class) (part : List Wanted) (rows : List Row) (are : AreWanted site class part)
    (right : AreRight site class part rows) where
  abbrev inners_and_paths : List Wanted
  inners_and_paths = map wanted.Inner are.inners ++ paths site class

  abbrev ranks_and_paths : List Wanted
  ranks_and_paths = map wanted.Rank are.relays ++ inners_and_paths

  abbrev behind_reach : List Wanted
  behind_reach = map wanted.Branch are.branches ++ ranks_and_paths

  in_part : (is : Wanted) → Contains (map wanted.Reach are.inputs ++ behind_reach) is → Contains part is
  in_part is there =
      subst (λ z. Contains z is) (sym are.whole) (one_behind (wanted.Class class) (map wanted.Reach are.inputs ++ behind_reach) is there)

  -- behind the inputs
  in_behind : (is : Wanted) → Contains ranks_and_paths is → Contains part is
  in_behind is there =
      in_part is (Contains-append_right (map wanted.Reach are.inputs) behind_reach is
      (Contains-append_right (map wanted.Branch are.branches) ranks_and_paths is there))

  of_reach_row : (input : SiteInput) → Reach site class Scope.Firm input → IsClean site class input
  of_reach_row input reach =
      let here = in_part (wanted.Reach input)
      (Contains-append_left (map wanted.Reach are.inputs) behind_reach (wanted.Reach input)
      (in_map wanted.Reach are.inputs input ((are.inputs_reached.member input).1 reach))) in
      let found = at_place part (wanted.Reach input) here in
      let is = right found.0 (wanted.Reach input) found.1 in
      reach_row site class part rows input is.stands is.right

  ranked : (relay : ℕ) → Contains are.relays relay → RankRow site class part rows relay
  ranked relay there =
      let here = in_behind (wanted.Rank relay)
      (Contains-append_left (map wanted.Rank are.relays) inners_and_paths (wanted.Rank relay) (in_map wanted.Rank are.relays relay there)) in
      let found = at_place part (wanted.Rank relay) here in
      let is = right found.0 (wanted.Rank relay) found.1 in
      rank_row site class part rows relay found.0 found.1 is.stands is.there is.right

  numbered : (inner : InnerList) → IsInner site class inner → InnerRow site class part rows inner
  numbered inner is_inner =
      let here = in_behind (wanted.Inner inner)
      (Contains-append_right (map wanted.Rank are.relays) inners_and_paths (wanted.Inner inner)
      (Contains-append_left (map wanted.Inner are.inners) (paths site class) (wanted.Inner inner)
      (in_map wanted.Inner are.inners inner ((are.inners_posted.member inner).1 is_inner)))) in
      let found = at_place part (wanted.Inner inner) here in
      let is = right found.0 (wanted.Inner inner) found.1 in
      inner_row site class part rows inner found.0 found.1 is.stands is.there is.right

  -- of the numbers of rows each is above the next ones
  no_loop : (input : SiteInput) → Reach site class Scope.Firm input → IsInnerLoop site class input → ⊥
  no_loop input reach loop =
      no_inner_loop site class (λ inner number. HasNumber site part rows inner number)
      (λ inner is. (let row = numbered inner is in (row.number, row.stands, row.numbered))) input reach loop

  clean : (input : SiteInput) → Reach site class Scope.Firm input → (kind : Kind) → HoldsAt site class input kind → ⊥
  clean input reach Kind.NotFull holds = of_reach_row input reach Kind.NotFull (λ e. cc) holds
  clean input reach Kind.MarkOff holds = of_reach_row input reach Kind.MarkOff (λ e. cc) holds
  clean input reach Kind.MarkAboveSize holds = of_reach_row input reach Kind.MarkAboveSize (λ e. cc) holds
  clean input reach Kind.Discards holds = of_reach_row input reach Kind.Discards (λ e. cc) holds
  clean input reach Kind.InnerQueue holds = of_reach_row input reach Kind.InnerQueue (λ e. cc) holds
  clean input reach Kind.GivesUp holds = of_reach_row input reach Kind.GivesUp (λ e. cc) holds
  clean input reach Kind.NoTarget holds = of_reach_row input reach Kind.NoTarget (λ e. cc) holds
  clean input reach Kind.Loop holds = holds
  clean input reach Kind.InnerLoop holds = no_loop input reach holds
  clean input reach (Kind.Unmet archive) holds = holds

  leads : (entry : SiteInput) → Contains site.entries entry → (archive : SiteAction) → Contains (archives site class) archive
      → LeadsTo site class archive entry
  leads entry is_entry archive is_archive =
      let here = in_behind (wanted.Path entry archive)
      (Contains-append_right (map wanted.Rank are.relays) inners_and_paths (wanted.Path entry archive)
      (Contains-append_right (map wanted.Inner are.inners) (paths site class) (wanted.Path entry archive)
      (in_flat (λ e. map (λ a. wanted.Path e a) (archives site class)) site.entries entry (wanted.Path entry archive) is_entry
      (in_map (λ a. wanted.Path entry a) (archives site class) archive is_archive)))) in
      let found = at_place part (wanted.Path entry archive) here in
      let is = right found.0 (wanted.Path entry archive) found.1 in
      path_row site class part rows entry archive is.stands is.right

  -- a relay's rank, of its row where it has one
  rank_by : (relay : ℕ) → Contains are.relays relay ⊎ (Contains are.relays relay → ⊥) → ℕ
  rank_by relay (inl there) = (ranked relay there).rank
  rank_by relay (inr none) = 0

  rank_stands : (relay : ℕ) (found : Contains are.relays relay ⊎ (Contains are.relays relay → ⊥)) → Contains are.relays relay
      → HasRank site part rows relay (rank_by relay found)
  unfolding rank_by ranked
  rank_stands relay (inl there) is = (ranked relay there).stands
  rank_stands relay (inr none) is = absurd (none is)

  rank_above : (relay : ℕ) (found : Contains are.relays relay ⊎ (Contains are.relays relay → ⊥)) → Contains are.relays relay
      → IsAbove site class part rows relay (rank_by relay found)
  unfolding rank_by ranked
  rank_above relay (inl there) is = (ranked relay there).above
  rank_above relay (inr none) is = absurd (none is)

  rank_at : ℕ → ℕ
  rank_at relay = rank_by relay (has are.relays relay)

  there_is : (input : SiteInput) → Reach site class Scope.Every input → Contains are.relays input.relay
  there_is input reach = (are.relays_reached.member input.relay).1 (input.input, reach)

  falls : (from to : SiteInput) (number : ℕ) → Reach site class Scope.Every from → Reaches site class Scope.Every from.relay (list_of site from) number to
      → rank_at to.relay < rank_at from.relay
  unfolding rank_at
  falls from to number reach goes =
      let reach_to = Reach.onward number reach goes in
      rank_above from.relay (has are.relays from.relay) (there_is from reach) from to number (rank_by to.relay (has are.relays to.relay)) refl reach goes
      (rank_stands to.relay (has are.relays to.relay) (there_is to reach_to))

  pub sound_for : IsSoundFor site class
  sound_for = record {
    clean = clean;
    rank = rank_at;
    ranks = record { falls = falls };
    leads = leads;
  }

-- ---- all classes
sound_among : (site : Site) (classes : List Class) (rows : List Row) → AreFit site classes rows → (class : Class) → Contains classes class
    → IsSoundFor site class
sound_among site [] rows fit class (k, low, is) = absurd (omega (arith, low))
sound_among site (first ∷ classes) rows (part, are, right, later) class (ℕ.zero, low, is) =
    subst (IsSoundFor site) is (sound_for site first part rows are right)
sound_among site (first ∷ classes) rows (part, are, right, later) class (ℕ.suc k, low, is) =
    sound_among site classes (drop (length part) rows) later class (k, omega (arith, low), is)

pub fit_is_sound : (site : Site) (rows : List Row) → IsFit site rows → IsSound site
fit_is_sound site rows fit class protected = sound_among site fit.classes rows fit.fit class ((fit.protected.member class).1 protected)
