-- The rows of one class behind those of others.
use Rattle.std.proofs.Common.{◌≡◌, ℕ, ◌≤◌, List, [], ◌∷◌, ◌++◌, drop, length, sym, subst, ◌∙◌, arith, inl, inr}
use Rattle.std.proofs.lemmas.Bool.{cases_lt}
use Rattle.std.proofs.lemmas.List.{drop-append-le, drop_all}
use Rattle.std.proofs.lemmas.Option.{slice_get-get_or, slice_get_within}
use Rattle.sy_wire.specs.declared.class.Class.{Class}
use Rattle.sy_cert.specs.declared.row.Row.{Row}
use Rattle.sy_cert.specs.declared.row.Row.TheVariants as row
use Rattle.sy_site.specs.Sites.{Site}
use Rattle.sy_flows.specs.declared.lists.InnerList.{InnerList}
use Rattle.sy_fit.specs.declared.rows.wanted.Wanted.{Wanted}
use Rattle.sy_fit.specs.declared.rows.wanted.Wanted.TheVariants as wanted
use Rattle.sy_fit.specs.Fit.{AreFit, AreRight, AreWanted, HasNumber, HasRank, IsInnerRow, IsRankRow, IsRight}
use Rattle.sy_checker.proofs.RowsMade.{same_place}

module _ (site : Site) (class : Class) (part : List Wanted) (rows more : List Row) (right : AreRight site class part rows) where
  -- a rank row stands among the rows of its class
  has_rank : (relay rank : ℕ) → HasRank site part (rows ++ more) relay rank → HasRank site part rows relay rank
  has_rank relay rank h =
      let at = right h.place (wanted.Rank relay) h.is_wanted in
      record {
        place = h.place;
        is_wanted = h.is_wanted;
        stands = sym (same_place rows more h.place (slice_get_within rows h.place at.stands at.there)) ∙ h.stands;
      }

  rank_with : (of : ℕ) (r : Row) → IsRankRow site class part rows of r → IsRankRow site class part (rows ++ more) of r
  rank_with of (row.Rank relay rank) h =
      (h.0, λ from to number below same reach goes has. h.1 from to number below same reach goes (has_rank to.relay below has))
  rank_with of (row.Class c) h = h
  rank_with of (row.Reach relay port) h = h
  rank_with of (row.Branch relay port) h = h
  rank_with of (row.Inner relay list number) h = h
  rank_with of (row.Path relay port archive_relay action occurrences) h = h

  has_number : (inner : InnerList) (number : ℕ) → HasNumber site part (rows ++ more) inner number → HasNumber site part rows inner number
  has_number inner number h =
      let at = right h.place (wanted.Inner inner) h.is_wanted in
      record {
        place = h.place;
        is_wanted = h.is_wanted;
        stands = sym (same_place rows more h.place (slice_get_within rows h.place at.stands at.there)) ∙ h.stands;
      }

  inner_with : (inner : InnerList) (r : Row) → IsInnerRow site class part rows inner r → IsInnerRow site class part (rows ++ more) inner r
  inner_with inner (row.Inner relay list number) h =
      (h.0, h.1, λ post to below does has. h.2 post to below does (has_number (record { relay = inner.relay; list = to }) below has))
  inner_with inner (row.Class c) h = h
  inner_with inner (row.Reach relay port) h = h
  inner_with inner (row.Branch relay port) h = h
  inner_with inner (row.Rank relay rank) h = h
  inner_with inner (row.Path relay port archive_relay action occurrences) h = h

  right_with : (is : Wanted) (r : Row) → IsRight site class part rows is r → IsRight site class part (rows ++ more) is r
  right_with (wanted.Class c) r h = h
  right_with (wanted.Reach input) r h = h
  right_with (wanted.Branch input) r h = h
  right_with (wanted.Rank of) r h = rank_with of r h
  right_with (wanted.Inner inner) r h = inner_with inner r h
  right_with (wanted.Path entry archive) r h = h

  pub right_append : AreRight site class part (rows ++ more)
  right_append place is there =
      let at = right place is there in
      record {
        stands = at.stands;
        there = same_place rows more place (slice_get_within rows place at.stands at.there) ∙ at.there;
        right = right_with is at.stands at.right;
      }

  pub part_within : length part ≤ length rows
  part_within = elim (cases_lt (length rows) (length part)) [
    | inl low ↦
        let at = slice_get-get_or part (length rows) (wanted.Rank 0) low in
        let it = right (length rows) _ at in
        let within = slice_get_within rows (length rows) it.stands it.there in
        absurd (omega (arith, within))
    | inr high ↦ high
  ]

pub parts_join : (site : Site) (classes : List Class) (class : Class) (part : List Wanted) (rows more : List Row) → AreFit site classes rows
    → AreWanted site class part → AreRight site class part more → length more ≡ length part → AreFit site (classes ++ class ∷ []) (rows ++ more)
parts_join site [] class part rows more fit are right many =
    subst (λ l. AreFit site (class ∷ []) (l ++ more)) (sym fit)
    (part, are, right, drop_all (length part) more (omega (arith, many)))
parts_join site (c ∷ classes) class part rows more fit are right many = (
  fit.0,
  fit.1,
  right_append site c fit.0 rows more fit.2,
  subst (AreFit site (classes ++ class ∷ [])) (sym (drop-append-le (length fit.0) rows more (part_within site c fit.0 rows more fit.2)))
      (parts_join site classes class part (drop (length fit.0) rows) more fit.3 are right many),
)
