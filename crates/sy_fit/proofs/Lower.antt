-- Numbers of lists that stand where they are wanted.
use Rattle.std.proofs.Common.{◌≡◌, ℕ, ◌<◌, ◌≤◌, ◌+◌, Bool, true, false, ◌==◌, ◌&&◌, if◌then◌else◌, List, length, Option, Some, None, refl, sym, ap, subst, ◌∙◌, arith, inl, inr, eqb-true, eq-eqb}
use Rattle.std.specs.Prelude.{Decides, slice_get}
use Rattle.std.specs.Str.{bytes_eq}
use Rattle.std.proofs.lemmas.Bool.{cases_eq, cases_lt, false≢true}
use Rattle.std.proofs.lemmas.Option.{slice_get_within}
use Rattle.std.proofs.lemmas.Slice.Eq.{bytes_eq-Decides}
use Rattle.sy_wire.specs.declared.class.Class.{Class}
use Rattle.sy_cert.specs.declared.row.Row.{Row}
use Rattle.sy_cert.specs.declared.row.Row.TheVariants as row
use Rattle.sy_rules.specs.declared.lists.occurrence.Occurrence.TheVariants as occurrence
use Rattle.sy_board.specs.relay.Spares.{Scope}
use Rattle.sy_site.specs.Sites.{Site}
use Rattle.sy_site.specs.machine.Reach.{MayDo, occurrence_at}
use Rattle.sy_flows.specs.declared.flows.executed.Executed.TheVariants as executed
use Rattle.sy_flows.specs.declared.lists.InnerList.{InnerList}
use Rattle.sy_fit.specs.declared.rows.wanted.Wanted.{Wanted}
use Rattle.sy_fit.specs.declared.rows.wanted.Wanted.TheVariants as wanted
use Rattle.sy_fit.specs.Fit.{HasNumber, IsNumbered}
use Rattle.sy_site.specs.Names.{name_of}
use Rattle.sy_flows.specs.Flows.{IsSet}
use Rattle.sy_fit.specs.internal.Inners.{IsLower, IsLowerAt, IsLowerBy, number_given}
use Rattle.sy_flows.specs.Members.{HasNoneFrom, IsNextIn}
use Rattle.sy_flows.specs.Leads.{same_list}
use Rattle.sy_fit.proofs.InnerLists.{on}
use Rattle.sy_flows.proofs.Led.{same_list_is, same_list_laws}
use Rattle.sy_fit.proofs.Listing.{and_first, and_second, both_true}

no_value : {A : Type 0} {x : A} → None ≡ Some x → ⊥
no_value e = cc

one_value : {A : Type 0} {x y : A} → Some x ≡ Some y → x ≡ y
one_value e = cc

if_true : {A : Type 0} (b : Bool) (x y : A) → b ≡ true → (if b then x else y) ≡ x
if_true true x y e = refl
if_true false x y e = cc

-- ---- one place

module _ (site : Site) (part : List Wanted) (rows : List Row) (inner : InnerList) where
  abbrev name : List ℕ
  name = name_of site inner.relay

  number_stands : (below : ℕ) (has : HasNumber site part rows inner below)
      → number_given site inner (slice_get part has.place) (slice_get rows has.place) ≡ Some below
  number_stands below has =
      ap (λ is. number_given site inner is (slice_get rows has.place)) has.is_wanted
      ∙ ap (λ r. number_given site inner (Some (wanted.Inner inner)) r) has.stands
      ∙ if_true (same_list inner inner) (if bytes_eq name name && (inner.list == inner.list) then Some below else None) None (same_list_laws.refl inner)
      ∙ if_true (bytes_eq name name && (inner.list == inner.list)) (Some below) None
      (both_true (bytes_eq name name) (inner.list == inner.list) ((bytes_eq-Decides name name).1 refl) (eq-eqb inner.list inner.list refl))

  by_tests : (place list number below : ℕ) (of : InnerList) (named : List ℕ) → slice_get part place ≡ Some (wanted.Inner of)
      → slice_get rows place ≡ Some (row.Inner named list number) → (a b : Bool) → same_list of inner ≡ a
      → (bytes_eq named name && (list == inner.list)) ≡ b → (if a then (if b then Some number else None) else None) ≡ Some below
      → HasNumber site part rows inner below
  by_tests place list number below of named is there true true same its e =
      let of_name = and_first (bytes_eq named name) (list == inner.list) its in
      let of_list = and_second (bytes_eq named name) (list == inner.list) its in
      record {
        place = place;
        is_wanted = is ∙ ap (λ x. Some (wanted.Inner x)) (same_list_is of inner same);
        stands = there ∙ ap (λ n. Some (row.Inner n list number)) ((bytes_eq-Decides named name).0 of_name)
            ∙ ap (λ l. Some (row.Inner name l number)) (eqb-true list inner.list of_list)
            ∙ ap (λ n. Some (row.Inner name inner.list n)) (one_value e);
      }
  by_tests place list number below of named is there true false same its e = absurd (no_value e)
  by_tests place list number below of named is there false b same its e = absurd (no_value e)

  none_by : (a : Bool) (below : ℕ) → (if a then None else None) ≡ Some below → ⊥
  none_by true below e = no_value e
  none_by false below e = no_value e

  stands_by : (place below : ℕ) (is : Option Wanted) (r : Option Row) → slice_get part place ≡ is → slice_get rows place ≡ r
      → number_given site inner is r ≡ Some below → HasNumber site part rows inner below
  stands_by place below None r is there e = absurd (no_value e)
  stands_by place below (Some w) None is there e = absurd (no_value e)
  stands_by place below (Some (wanted.Inner of)) (Some (row.Inner named list number)) is there e =
      by_tests place list number below of named is there (same_list of inner) (bytes_eq named name && (list == inner.list)) refl refl e
  stands_by place below (Some (wanted.Inner of)) (Some (row.Class c)) is there e = absurd (none_by (same_list of inner) below e)
  stands_by place below (Some (wanted.Inner of)) (Some (row.Reach relay port)) is there e = absurd (none_by (same_list of inner) below e)
  stands_by place below (Some (wanted.Inner of)) (Some (row.Branch relay port)) is there e = absurd (none_by (same_list of inner) below e)
  stands_by place below (Some (wanted.Inner of)) (Some (row.Rank relay rank)) is there e = absurd (none_by (same_list of inner) below e)
  stands_by place below (Some (wanted.Inner of)) (Some (row.Path relay port archive_relay action occurrences)) is there e =
      absurd (none_by (same_list of inner) below e)
  stands_by place below (Some (wanted.Class c)) (Some r) is there e = absurd (no_value e)
  stands_by place below (Some (wanted.Reach input)) (Some r) is there e = absurd (no_value e)
  stands_by place below (Some (wanted.Branch input)) (Some r) is there e = absurd (no_value e)
  stands_by place below (Some (wanted.Rank relay)) (Some r) is there e = absurd (no_value e)
  stands_by place below (Some (wanted.Path entry archive)) (Some r) is there e = absurd (no_value e)

  pub lower_there : (number place : ℕ) → IsLower site part rows inner number → IsLowerAt site part rows inner number place
  lower_there number place all below e = all below (stands_by place below (slice_get part place) (slice_get rows place) refl refl e)

  -- its row is wanted there alone
  pub lower_one : (number place : ℕ) → ((other : ℕ) → slice_get part other ≡ Some (wanted.Inner inner) → other ≡ place)
      → IsLowerAt site part rows inner number place → IsLower site part rows inner number
  lower_one number place only at below has =
      at below (subst (λ p. number_given site inner (slice_get part p) (slice_get rows p) ≡ Some below) (only has.place has.is_wanted)
      (number_stands below has))

-- ---- post after post

one_post : {a b : ℕ} → Some (occurrence.Post a) ≡ Some (occurrence.Post b) → a ≡ b
one_post e = cc

no_post : {a b : ℕ} → Some (occurrence.Run a) ≡ Some (occurrence.Post b) → ⊥
no_post e = cc

module _ (site : Site) (class : Class) (part : List Wanted) (rows : List Row) (inner : InnerList) (number set : ℕ)
    (is_set : IsSet site class executed.Firm inner.relay inner.list set) where
  pub lower_more : (next post : ℕ) → IsNextIn set next post → IsLowerBy site class part rows inner number post
      → ((k : ℕ) → k < next → IsLowerBy site class part rows inner number k) → (k : ℕ) → k < post + 1 → IsLowerBy site class part rows inner number k
  lower_more next post is here before k low to does below has = elim (cases_eq k post) [
    | inl same ↦ here to (subst (λ j. MayDo site class Scope.Firm inner.relay inner.list j (occurrence.Post to)) same does) below has
    | inr apart ↦ elim (cases_lt k next) [
      | inl earlier ↦ before k earlier to does below has
      | inr behind ↦ absurd (is.lowest k behind (omega (arith, low, apart)) (is_set.whole k (occurrence.Post to) does))
    ]
  ]

  pub lower_every : (next : ℕ) → HasNoneFrom set next → ((k : ℕ) → k < next → IsLowerBy site class part rows inner number k)
      → IsNumbered site class part rows inner number
  lower_every next none before post to below does has = elim (cases_lt post next) [
    | inl earlier ↦ before post earlier to does below has
    | inr behind ↦ absurd (none post behind (is_set.whole post (occurrence.Post to) does))
  ]

-- the occurrence is a post
pub lower_by : (site : Site) (class : Class) (part : List Wanted) (rows : List Row) (inner : InnerList) (number post to : ℕ)
    → MayDo site class Scope.Firm inner.relay inner.list post (occurrence.Post to) → (lower : Bool)
    → Decides lower (IsLower site part rows (on inner.relay to) number) → Decides lower (IsLowerBy site class part rows inner number post)
lower_by site class part rows inner number post to does lower decides = (
  λ yes other d below has. decides.0 yes below
      (subst (λ z. HasNumber site part rows (on inner.relay z) below) (one_post (sym d.found ∙ does.found)) has),
  λ all. decides.1 (λ below has. all to does below has),
)

-- it is none
pub lower_run : (site : Site) (class : Class) (part : List Wanted) (rows : List Row) (inner : InnerList) (number post action : ℕ)
    → MayDo site class Scope.Firm inner.relay inner.list post (occurrence.Run action) → IsLowerBy site class part rows inner number post
lower_run site class part rows inner number post action run to does below has = absurd (no_post (sym run.found ∙ does.found))

-- there is none
pub lower_none : (site : Site) (class : Class) (part : List Wanted) (rows : List Row) (inner : InnerList) (number post : ℕ)
    → occurrence_at site inner.relay inner.list post ≡ None → IsLowerBy site class part rows inner number post
lower_none site class part rows inner number post here to does below has = absurd (no_value (sym here ∙ does.found))

pub numbered_by : (site : Site) (class : Class) (part : List Wanted) (rows : List Row) (inner : InnerList) (number post : ℕ)
    → IsNumbered site class part rows inner number → IsLowerBy site class part rows inner number post
numbered_by site class part rows inner number post all to does below has = all post to below does has
