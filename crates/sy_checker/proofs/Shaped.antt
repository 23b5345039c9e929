-- The rows of a fit certificate follow one another as a certificate's do, and have their shapes.
use Rattle.std.proofs.Common.{◌≡◌, ℕ, suc, ◌<◌, ◌≤◌, Bool, true, false, ◌||◌, List, [], ◌∷◌, ◌++◌, length, map, drop, Some, refl, sym, ap, subst, ◌∙◌, arith, append_assoc, inl, inr, All}
use Rattle.std.specs.Prelude.{Contains, flat_map, slice_get}
use Rattle.std.specs.List.{list_any}
use Rattle.std.proofs.lemmas.Bool.{false≢true}
use Rattle.std.proofs.lemmas.Option.{slice_get_within}
use Rattle.sy_wire.specs.declared.class.Class.{Class}
use Rattle.sy_cert.specs.declared.kinds.Kind.{Kind}
use Rattle.sy_cert.specs.declared.kinds.Kind.TheVariants as kinds
use Rattle.sy_cert.specs.declared.row.Row.{Row}
use Rattle.sy_cert.specs.declared.row.Row.TheVariants as row
use Rattle.sy_cert.specs.Rows.{AreOccurrences, IsPort, IsRow, IsVersion, is_action, is_name, kind, last_from, may_follow}
use Rattle.sy_rules.specs.declared.lists.occurrence.Occurrence.{Occurrence}
use Rattle.sy_rules.specs.declared.lists.occurrence.Occurrence.TheVariants as occurrence
use Rattle.sy_rules.specs.Whole.{IsWhole}
use Rattle.sy_board.specs.relay.Plans.{occurrences_at}
use Rattle.sy_board.proofs.relay.Bounds.{all_first, all_later, occurrences_few}
use Rattle.sy_site.specs.declared.site.Protection.{Protection}
use Rattle.sy_site.specs.declared.site.SiteAction.{SiteAction}
use Rattle.sy_site.specs.declared.site.SiteInput.{SiteInput}
use Rattle.sy_site.specs.Sites.{Relay, Site, archives, asks_for, is_protected, plan_at, plan_in}
use Rattle.sy_site.specs.machine.Lawful.{IsInput, IsLawful}
use Rattle.sy_board.specs.relay.Spares.{Scope}
use Rattle.sy_site.specs.machine.Reach.{Reach, list_of, occurrence_at}
use Rattle.sy_site.specs.machine.Reach as reach
use Rattle.sy_checker.specs.internal.Certifying.{AreShaped, IsInRange}
use Rattle.sy_fit.specs.Fit.{AreFit, AreWanted, IsFit, IsPath, IsRight, paths}
use Rattle.sy_site.specs.Names.{action_name, name_of, port_of}
use Rattle.sy_flows.specs.declared.lists.InnerList.{InnerList}
use Rattle.sy_fit.specs.declared.rows.wanted.Wanted.{Wanted}
use Rattle.sy_fit.specs.declared.rows.wanted.Wanted.TheVariants as wanted
use Rattle.sy_fit.proofs.Comparing.{meant, no_value, one_value}
use Rattle.sy_checker.proofs.Described.{IsNamed}
use Rattle.sy_fit.proofs.FitIsSound.{in_flat, in_map, one_behind}
use Rattle.sy_fit.proofs.Meant.{end_there, entry_there, inner_there, rank_there}
use Rattle.sy_flows.proofs.There.{reach_there, relay_there}
use Rattle.sy_checker.proofs.Branches.{branch_policy}
use Rattle.sy_flows.proofs.Used.{relay_of}

-- ---- the order of what is wanted

abbrev pub kind_of : Wanted → Kind
kind_of (wanted.Class class) = kinds.Class
kind_of (wanted.Reach input) = kinds.Reach
kind_of (wanted.Branch input) = kinds.Branch
kind_of (wanted.Rank relay) = kinds.Rank
kind_of (wanted.Inner inner) = kinds.Inner
kind_of (wanted.Path entry archive) = kinds.Path

abbrev pub Run : Kind → List Wanted → Type 0
Run before [] = Unit {0}
Run before (is ∷ part) = (may_follow before (kind_of is) ≡ true) × Run (kind_of is) part

abbrev pub last_of : Kind → List Wanted → Kind
last_of before [] = before
last_of before (is ∷ part) = last_of (kind_of is) part

abbrev pub AllAre : Kind → List Wanted → Type 0
AllAre k [] = Unit {0}
AllAre k (is ∷ part) = (kind_of is ≡ k) × AllAre k part

run_append : (before : Kind) (xs ys : List Wanted) → Run before xs → Run (last_of before xs) ys → Run before (xs ++ ys)
run_append before [] ys first later = later
run_append before (x ∷ xs) ys first later = (first.0, run_append (kind_of x) xs ys first.1 later)

last_append : (before : Kind) (xs ys : List Wanted) → last_of before (xs ++ ys) ≡ last_of (last_of before xs) ys
last_append before [] ys = refl
last_append before (x ∷ xs) ys = last_append (kind_of x) xs ys

abbrev RunsTo : Kind → Kind → List Wanted → Type 0
RunsTo before last part = Run before part × (last_of before part ≡ last)

runs_on : (k : Kind) → may_follow k k ≡ true → (part : List Wanted) → AllAre k part → RunsTo k k part
runs_on k on [] all = (tt, refl)
runs_on k on (is ∷ part) all =
    let later = subst (λ x. RunsTo x k part) (sym all.0) (runs_on k on part all.1) in
    ((subst (λ x. may_follow k x ≡ true) (sym all.0) on, later.0), later.1)

runs_from : (before k : Kind) → may_follow before k ≡ true → may_follow k k ≡ true → (part : List Wanted) (some : Wanted) → Contains part some
    → AllAre k part → RunsTo before k part
runs_from before k first on [] some (j, low, is) all = absurd (omega (arith, low))
runs_from before k first on (is ∷ part) some there all =
    let later = subst (λ x. RunsTo x k part) (sym all.0) (runs_on k on part all.1) in
    ((subst (λ x. may_follow before x ≡ true) (sym all.0) first, later.0), later.1)

runs_join : (before middle last : Kind) (xs ys : List Wanted) → RunsTo before middle xs → RunsTo middle last ys → RunsTo before last (xs ++ ys)
runs_join before middle last xs ys first later = (
  run_append before xs ys first.0 (subst (λ k. Run k ys) (sym first.1) later.0),
  last_append before xs ys ∙ ap (λ k. last_of k ys) first.1 ∙ later.1,
)

all_map : {A : Type 0} (f : A → Wanted) (k : Kind) → ((x : A) → kind_of (f x) ≡ k) → (xs : List A) → AllAre k (map f xs)
all_map f k is [] = tt
all_map f k is (x ∷ xs) = (is x, all_map f k is xs)

all_append : (k : Kind) (xs ys : List Wanted) → AllAre k xs → AllAre k ys → AllAre k (xs ++ ys)
all_append k [] ys a b = b
all_append k (x ∷ xs) ys a b = (a.0, all_append k xs ys a.1 b)

all_flat : {A : Type 0} (f : A → List Wanted) (k : Kind) → ((x : A) → AllAre k (f x)) → (xs : List A) → AllAre k (flat_map f xs)
all_flat f k is [] = tt
all_flat f k is (x ∷ xs) = all_append k (f x) (flat_map f xs) (is x) (all_flat f k is xs)

module _ (site : Site) (class : Class) (part : List Wanted) (are : AreWanted site class part) (entry : SiteInput) (is_entry : Contains site.entries entry)
    (archive : SiteAction) (named : Contains (archives site class) archive) where
  inputs_run : RunsTo kinds.Class kinds.Reach (map wanted.Reach are.inputs)
  inputs_run =
      runs_from kinds.Class kinds.Reach refl refl (map wanted.Reach are.inputs) (wanted.Reach entry)
      (in_map wanted.Reach are.inputs entry ((are.inputs_reached.member entry).1 (reach.entry is_entry)))
      (all_map wanted.Reach kinds.Reach (λ x. refl) are.inputs)

  ranks_run : (before : Kind) → may_follow before kinds.Rank ≡ true → RunsTo before kinds.Rank (map wanted.Rank are.relays)
  ranks_run before first =
      runs_from before kinds.Rank first refl (map wanted.Rank are.relays) (wanted.Rank entry.relay)
      (in_map wanted.Rank are.relays entry.relay ((are.relays_reached.member entry.relay).1 (entry.input, reach.entry is_entry)))
      (all_map wanted.Rank kinds.Rank (λ x. refl) are.relays)

  -- behind the reach rows come branch rows, if there are any
  branches_run : (branches : List SiteInput) → RunsTo kinds.Reach kinds.Rank (map wanted.Branch branches ++ map wanted.Rank are.relays)
  branches_run [] = ranks_run kinds.Reach refl
  branches_run (x ∷ branches) =
      runs_join kinds.Reach kinds.Branch kinds.Rank (map wanted.Branch (x ∷ branches)) (map wanted.Rank are.relays)
      (runs_from kinds.Reach kinds.Branch refl refl (map wanted.Branch (x ∷ branches)) (wanted.Branch x) (0, omega arith, refl)
      (all_map wanted.Branch kinds.Branch (λ y. refl) (x ∷ branches)))
      (ranks_run kinds.Branch refl)

  paths_run : (before : Kind) → may_follow before kinds.Path ≡ true → RunsTo before kinds.Path (paths site class)
  paths_run before first =
      runs_from before kinds.Path first refl (paths site class) (wanted.Path entry archive)
      (in_flat (λ e. map (λ a. wanted.Path e a) (archives site class)) site.entries entry (wanted.Path entry archive) is_entry
      (in_map (λ a. wanted.Path entry a) (archives site class) archive named))
      (all_flat (λ e. map (λ a. wanted.Path e a) (archives site class)) kinds.Path
      (λ e. all_map (λ a. wanted.Path e a) kinds.Path (λ x. refl) (archives site class)) site.entries)

  -- behind the rank rows come inner rows, if there are any
  inners_run : (inners : List InnerList) → RunsTo kinds.Rank kinds.Path (map wanted.Inner inners ++ paths site class)
  inners_run [] = paths_run kinds.Rank refl
  inners_run (x ∷ inners) =
      runs_join kinds.Rank kinds.Inner kinds.Path (map wanted.Inner (x ∷ inners)) (paths site class)
      (runs_from kinds.Rank kinds.Inner refl refl (map wanted.Inner (x ∷ inners)) (wanted.Inner x) (0, omega arith, refl)
      (all_map wanted.Inner kinds.Inner (λ y. refl) (x ∷ inners)))
      (paths_run kinds.Inner refl)

  pub part_runs : (before : Kind) → may_follow before kinds.Class ≡ true → RunsTo before kinds.Path part
  part_runs before first =
      let last = map wanted.Inner are.inners ++ paths site class in
      let behind = map wanted.Branch are.branches ++ (map wanted.Rank are.relays ++ last) in
      let later =
      runs_join kinds.Class kinds.Reach kinds.Path (map wanted.Reach are.inputs) behind inputs_run
      (subst (RunsTo kinds.Reach kinds.Path) (append_assoc (map wanted.Branch are.branches) (map wanted.Rank are.relays) last)
      (runs_join kinds.Reach kinds.Rank kinds.Path (map wanted.Branch are.branches ++ map wanted.Rank are.relays) last
      (branches_run are.branches) (inners_run are.inners))) in
      subst (RunsTo before kinds.Path) (sym are.whole) ((first, later.0), later.1)

-- ---- shapes

-- the plan of a relay that is there
whole_in : (relays : List Relay) (k : ℕ) → All (λ relay. IsWhole relay.plan) relays → k < length relays → IsWhole (plan_in (slice_get relays k))
whole_in [] k all low = absurd (omega (arith, low))
whole_in (x ∷ relays) ℕ.zero all low = all_first (λ (relay : Relay). IsWhole relay.plan) x relays all
whole_in (x ∷ relays) (ℕ.suc k) all low = whole_in relays k (all_later (λ (relay : Relay). IsWhole relay.plan) x relays all) (omega (arith, low))

module _ (site : Site) (law : IsLawful site) where
  whole_at : (input : SiteInput) → IsInput site input → IsWhole (plan_at site input.relay)
  whole_at input is = whole_in site.relays input.relay law.plans (relay_there site input is)

  port_least : (input : SiteInput) → IsInput site input → 1 ≤ port_of site input
  port_least input is =
      (whole_at input is).input_ports input.input _ (slice_get_within (plan_at site input.relay).inputs input.input is.parts is.found)

  -- the number of an occurrence
  number_few : (relay list number : ℕ) (is : Occurrence) → occurrence_at site relay list number ≡ Some is → number < 64
  number_few relay list number is here =
      let low = slice_get_within (occurrences_at (plan_at site relay) list) number is here in
      let few = occurrences_few (plan_at site relay) list (whole_in site.relays relay law.plans (relay_of site relay list number is here)) in
      omega (arith, low, few)

  -- the occurrences of a path
  path_few : (class : Class) (archive : SiteAction) (relay list : ℕ) (numbers : List ℕ) → IsPath site class archive relay list numbers
      → AreOccurrences numbers
  path_few class archive relay list [] path = tt
  path_few class archive relay list (number ∷ later) (inl (inner, does, path)) =
      (number_few relay list number (occurrence.Post inner) does.found, path_few class archive relay inner later path)
  path_few class archive relay list (number ∷ later) (inr (to, goes, path)) =
      (number_few relay list number (occurrence.Run goes.action) goes.does.found, path_few class archive to.relay (list_of site to) later path)

  module _ (named : IsNamed site) (all : (class : Class) (archive : SiteAction) → Contains (archives site class) archive
      → (p : Protection) × Contains site.protections p × (asks_for p class ≡ true) × (p.archive ≡ archive))
      (class : Class) (part : List Wanted) (rows : List Row) (are : AreWanted site class part) where
    name_is : (relay : ℕ) (name : List ℕ) → name ≡ name_of site relay → relay < length site.relays → is_name name ≡ true
    name_is relay name same low = subst (λ n. is_name n ≡ true) (sym same) (named.relays relay low)

    port_is : (input : SiteInput) (port : ℕ) → IsInput site input → port ≡ port_of site input → port ≤ 65535 → IsPort port
    port_is input port is same most = (let least = port_least input is in (omega (arith, least, same), most))

    shaped : (is : Wanted) → Contains part is → (r : Row) → IsRight site class part rows is r
        → (IsInRange r → IsRow site.policy r) × (kind r ≡ kind_of is)
    shaped (wanted.Class c) there (row.Class given) right = (λ range. range, refl)
    shaped (wanted.Reach input) there (row.Reach relay port) right =
        let it = reach_there site law class Scope.Firm input (meant site class part are (wanted.Reach input) there) in
        (λ range. (name_is input.relay relay right.0 (relay_there site input it), port_is input port it right.1 range), refl)
    shaped (wanted.Branch input) there (row.Branch relay port) right =
        let branch = meant site class part are (wanted.Branch input) there in
        let it = reach_there site law class Scope.Every input branch.reached in (
          λ range. (branch_policy site law class input branch, name_is input.relay relay right.0 (relay_there site input it), port_is input port it right.1 range),
          refl,
        )
    shaped (wanted.Rank of) there (row.Rank relay rank) right =
        (λ range. (name_is of relay right.0 (rank_there site law class part are of there), range), refl)
    shaped (wanted.Inner inner) there (row.Inner relay list number) right =
        (λ range. (name_is inner.relay relay right.0 (inner_there site law class part are inner there).relay, range.0, range.1), refl)
    shaped (wanted.Path entry archive) there (row.Path relay port archive_relay action occurrences) right =
        let it = entry_there site law class part are entry archive there in
        let at = all class archive (meant site class part are (wanted.Path entry archive) there).1 in
        let action_is = subst (λ a. is_action (action_name site a) ≡ true) at.3 (named.archives at.0 at.1) in (
          λ range. (
            name_is entry.relay relay right.0 (relay_there site entry it),
            port_is entry port it right.1 range,
            name_is archive.relay archive_relay right.2 (end_there site law class part are (all class) entry archive there),
            subst (λ n. is_action n ≡ true) (sym right.3) action_is,
            path_few class archive entry.relay (list_of site entry) occurrences right.4,
          ),
          refl,
        )
    shaped (wanted.Class c) there (row.Reach relay port) right = absurd right
    shaped (wanted.Class c) there (row.Branch relay port) right = absurd right
    shaped (wanted.Class c) there (row.Rank relay rank) right = absurd right
    shaped (wanted.Class c) there (row.Path relay port archive_relay action occurrences) right = absurd right
    shaped (wanted.Reach input) there (row.Class given) right = absurd right
    shaped (wanted.Reach input) there (row.Branch relay port) right = absurd right
    shaped (wanted.Reach input) there (row.Rank relay rank) right = absurd right
    shaped (wanted.Reach input) there (row.Path relay port archive_relay action occurrences) right = absurd right
    shaped (wanted.Branch input) there (row.Class given) right = absurd right
    shaped (wanted.Branch input) there (row.Reach relay port) right = absurd right
    shaped (wanted.Branch input) there (row.Rank relay rank) right = absurd right
    shaped (wanted.Branch input) there (row.Path relay port archive_relay action occurrences) right = absurd right
    shaped (wanted.Rank of) there (row.Class given) right = absurd right
    shaped (wanted.Rank of) there (row.Branch relay port) right = absurd right
    shaped (wanted.Rank of) there (row.Reach relay port) right = absurd right
    shaped (wanted.Rank of) there (row.Path relay port archive_relay action occurrences) right = absurd right
    shaped (wanted.Path entry archive) there (row.Class given) right = absurd right
    shaped (wanted.Path entry archive) there (row.Reach relay port) right = absurd right
    shaped (wanted.Path entry archive) there (row.Branch relay port) right = absurd right
    shaped (wanted.Path entry archive) there (row.Rank relay rank) right = absurd right
    shaped (wanted.Path entry archive) there (row.Inner relay list number) right = absurd right
    shaped (wanted.Class c) there (row.Inner relay list number) right = absurd right
    shaped (wanted.Reach input) there (row.Inner relay list number) right = absurd right
    shaped (wanted.Branch input) there (row.Inner relay list number) right = absurd right
    shaped (wanted.Rank of) there (row.Inner relay list number) right = absurd right
    shaped (wanted.Inner inner) there (row.Class given) right = absurd right
    shaped (wanted.Inner inner) there (row.Reach relay port) right = absurd right
    shaped (wanted.Inner inner) there (row.Branch relay port) right = absurd right
    shaped (wanted.Inner inner) there (row.Rank relay rank) right = absurd right
    shaped (wanted.Inner inner) there (row.Path relay port archive_relay action occurrences) right = absurd right

-- ---- rows

among : {A : Type 0} (xs : List A) (k : ℕ) (x : A) → slice_get xs k ≡ Some x → Contains xs x
among [] k x e = absurd (no_value e)
among (y ∷ ys) ℕ.zero x e = (0, omega arith, one_value e)
among (y ∷ ys) (ℕ.suc k) x e = one_behind y ys x (among ys k x e)

record IsShapedAt (version : ℕ) (rows : List Row) (place : ℕ) (is : Wanted) : Type 0 where
  pub stands : Row
  pub there : slice_get rows place ≡ Some stands
  pub shape : (IsInRange stands → IsRow version stands) × (kind stands ≡ kind_of is)

rows_run : (version : ℕ) (before : Kind) (part : List Wanted) (rows : List Row) → Run before part
    → ((place : ℕ) (is : Wanted) → slice_get part place ≡ Some is → IsShapedAt version rows place is)
    → AreShaped version (last_of before part) (drop (length part) rows) → AreShaped version before rows
rows_run version before [] rows run each later = later
rows_run version before (is ∷ part) [] run each later = (let it = each 0 is refl in absurd (no_value it.there))
rows_run version before (is ∷ part) (r ∷ rows) run each later =
    let it = each 0 is refl in
    let same : it.stands ≡ r = one_value (sym it.there) in
    let shape = subst (λ x. (IsInRange x → IsRow version x) × (kind x ≡ kind_of is)) same it.shape in (
      shape.0,
      subst (λ k. may_follow before k ≡ true) (sym shape.1) run.0,
      subst (λ k. AreShaped version k rows) (sym shape.1)
          (rows_run version (kind_of is) part rows run.1
          (λ place other there. (let at = each (suc place) other there in record { stands = at.stands; there = at.there; shape = at.shape })) later),
    )

-- ---- a site

first_asked : (protections : List Protection) (class : Class) → list_any (λ p. asks_for p class) protections ≡ true
    → (p : Protection) × Contains protections p × (asks_for p class ≡ true)
first_asked [] class none = absurd (false≢true none)
first_asked (p ∷ later) class some = go (asks_for p class) refl some (first_asked later class)
  where
    go : (b : Bool) → asks_for p class ≡ b → (b || list_any (λ q. asks_for q class) later) ≡ true
        → (list_any (λ q. asks_for q class) later ≡ true → (q : Protection) × Contains later q × (asks_for q class ≡ true))
        → (q : Protection) × Contains (p ∷ later) q × (asks_for q class ≡ true)
    go true e some rest = (p, (0, omega arith, refl), e)
    go false e some rest = (let it = rest some in (it.0, one_behind p later it.0 it.1, it.2))

module _ (site : Site) (law : IsLawful site) (named : IsNamed site)
    (those : (site : Site) (class : Class) (archive : SiteAction) → Contains (archives site class) archive
    → (p : Protection) × Contains site.protections p × (asks_for p class ≡ true) × (p.archive ≡ archive))
    (all : (site : Site) (class : Class) (p : Protection) → Contains site.protections p → asks_for p class ≡ true → Contains (archives site class) p.archive) where
  fit_shaped : (classes : List Class) (rows : List Row) (before : Kind) → may_follow before kinds.Class ≡ true
      → ((class : Class) → Contains classes class → is_protected site class ≡ true) → AreFit site classes rows → AreShaped site.policy before rows
  fit_shaped [] rows before first each fit = subst (AreShaped site.policy before) (sym fit) tt
  fit_shaped (class ∷ classes) rows before first each (part, are, right, later) =
      let asked = first_asked site.protections class (each class (0, omega arith, refl)) in
      let archive = all site class asked.0 asked.1 asked.2 in
      let run = part_runs site class part are named.entry named.is_entry asked.0.archive archive before first in
      rows_run site.policy before part rows run.0
      (λ place is there.
      let at = right place is there in
      record {
        stands = at.stands;
        there = at.there;
        shape = shaped site law named (those site) class part rows are is (among part place is there) at.stands at.right;
      })
      (subst (λ k. AreShaped site.policy k (drop (length part) rows)) (sym run.1)
      (fit_shaped classes (drop (length part) rows) kinds.Path refl (λ c there. each c (one_behind class classes c there)) later))

  pub rows_shaped : (rows : List Row) → IsFit site rows → AreShaped site.policy kinds.Cert rows
  rows_shaped rows fit = fit_shaped fit.classes rows kinds.Cert refl (λ class. (fit.protected.member class).0) fit.fit

pub a_version : (site : Site) → IsLawful site → IsVersion site.policy
a_version site law = elim law.policy [
  | inl one ↦ inl one.0
  | inr two ↦ inr two
]

-- ---- row after row

pub last_more : (before : Kind) (rows : List Row) (r : Row) → last_from before (rows ++ r ∷ []) ≡ kind r
last_more before [] r = refl
last_more before (x ∷ rows) r = last_more (kind x) rows r
