-- Rows that are right, class after class.
use Rattle.std.proofs.Common.{◌≡◌, ℕ, ◌<◌, ◌≤◌, ◌+◌, ◌-◌, List, [], ◌∷◌, length, drop, take, get_or, Some, refl, sym, ap, subst, ◌∙◌, arith, inl, inr}
use Rattle.std.specs.Prelude.{slice_get}
use Rattle.std.proofs.lemmas.Bool.{cases_lt}
use Rattle.std.proofs.lemmas.List.{drop-drop, drop_all, drop_more, length-drop, take_all}
use Rattle.std.proofs.lemmas.Option.{slice_get-get_or, slice_get_cases, slice_get_within}
use Rattle.sy_wire.specs.declared.class.Class.{Class}
use Rattle.sy_cert.specs.declared.row.Row.{Row}
use Rattle.sy_site.specs.Sites.{Site}
use Rattle.sy_fit.specs.Fit.{AreFit, AreProtected, AreRight, AreWanted, AreWrong, IsFit, IsRightAt, IsWrongAt, row_kind}
use Rattle.sy_fit.specs.internal.Verifying.{AreDone, IsJudged}
use Rattle.sy_fit.specs.declared.verifying.Judged.TheVariants as judged
use Rattle.sy_fit.specs.declared.rows.wanted.RowKind.{RowKind}
use Rattle.sy_fit.specs.declared.rows.wanted.Wanted.{Wanted}
use Rattle.sy_fit.proofs.Comparing.{one_value}

-- ---- the rows of one class

module _ (site : Site) (class : Class) (part : List Wanted) (rows : List Row) where
  -- where so many wanted rows are right, so many rows stand
  enough : (count : ℕ) → count ≤ length part → ((k : ℕ) (is : Wanted) → k < count → slice_get part k ≡ Some is → IsRightAt site class part rows k is)
      → count ≤ length rows
  enough count most right =
      elim (cases_lt (length rows) count) [
        | inl low ↦
            elim (slice_get_cases part (length rows)).1 [
              | inl found ↦
                  let is = right (length rows) found.0 low found.2 in
                  let within = slice_get_within rows (length rows) is.stands is.there in
                  absurd (omega (arith, within))
              | inr past ↦ (let none = past.0 in absurd (omega (arith, low, most, none)))
            ]
        | inr high ↦ high
      ]

  pub right_rows : AreWanted site class part → AreRight site class part rows → (count : ℕ) → count ≡ length part
      → IsJudged site class rows (judged.Right count)
  right_rows wanted right count same =
      let most = enough (length part) (omega arith) (λ k is low there. right k is there) in
      (part, wanted, right, sym same, omega (arith, same, most))

  pub wrong_row : AreWanted site class part → (place : ℕ) (kind : RowKind) → IsWrongAt site class part rows place kind
      → IsJudged site class rows (judged.Wrong place kind)
  wrong_row wanted place kind wrong =
      let low = slice_get_within part place wrong.is wrong.is_wanted in
      (part, wanted, wrong, enough place (omega (arith, low)) (λ k is below there. wrong.before k is below there))

-- ---- the rows of some classes

pub done_first : (site : Site) (classes : List Class) (rows : List Row) → AreDone site classes rows classes 0
done_first site classes rows = record { within = omega arith; fit = λ fit. fit; wrong = λ place kind wrong. subst (λ n. AreWrong site classes rows n kind) (omega arith) wrong }

module _ (site : Site) (classes : List Class) (rows : List Row) (done : ℕ) where
  module _ (class : Class) (later : List Class) (are : AreDone site classes rows (class ∷ later) done) where
    done_more : (count : ℕ) → IsJudged site class (drop done rows) (judged.Right count) → AreDone site classes rows later (done + count)
    done_more count (part, wanted, right, same, few) =
        let all = are.within in
        let left = length-drop done rows in
        let behind : drop (length part) (drop done rows) ≡ drop (done + count) rows =
        ap (λ n. drop n (drop done rows)) same ∙ drop-drop count done rows in
        record {
          within = omega (arith, few, left, all);
          fit = λ fit. are.fit (part, wanted, right, subst (AreFit site later) (sym behind) fit);
          wrong = λ place kind wrong.
              subst (λ n. AreWrong site classes rows n kind) (omega arith)
              (are.wrong (count + place) kind (
                part,
                wanted,
                inr (
                  right,
                  place,
                  ap (λ n. n + place) (sym same),
                  subst (λ l. AreWrong site later l place kind) (sym behind) wrong,
                ),
              ));
        }

    done_wrong : (place : ℕ) (kind : RowKind) → IsJudged site class (drop done rows) (judged.Wrong place kind)
        → AreWrong site classes rows (done + place) kind
    done_wrong place kind (part, wanted, wrong, few) = are.wrong place kind (part, wanted, inl wrong)

  pub done_all : AreDone site classes rows [] done → length rows ≤ done → AreFit site classes rows
  done_all are most = are.fit (drop_all done rows most)

  pub done_left : AreDone site classes rows [] done → (r : Row) → slice_get rows done ≡ Some r → AreWrong site classes rows done (row_kind r)
  done_left are r there =
      let low = slice_get_within rows done r there in
      let first : get_or rows done r ≡ r = one_value (sym (slice_get-get_or rows done r low) ∙ there) in
      let split = drop_more rows done r low ∙ ap (λ x. x ∷ drop (done + 1) rows) first in
      subst (λ n. AreWrong site classes rows n (row_kind r)) (omega arith)
      (are.wrong 0 (row_kind r) (subst (λ l. AreWrong site [] l 0 (row_kind r)) (sym split) (refl, refl)))

-- at the next of the classes
module _ (site : Site) (classes : List Class) (rows : List Row) (done k : ℕ) (d : Class) (low : k < length classes)
    (are : AreDone site classes rows (drop k classes) done) where
  next : AreDone site classes rows (get_or classes k d ∷ drop (k + 1) classes) done
  next = subst (λ l. AreDone site classes rows l done) (drop_more classes k d low) are

  pub next_right : (count : ℕ) → IsJudged site (get_or classes k d) (drop done rows) (judged.Right count)
      → AreDone site classes rows (drop (k + 1) classes) (done + count)
  next_right = done_more site classes rows done (get_or classes k d) (drop (k + 1) classes) next

  pub next_wrong : (place : ℕ) (kind : RowKind) → IsJudged site (get_or classes k d) (drop done rows) (judged.Wrong place kind)
      → AreWrong site classes rows (done + place) kind
  next_wrong = done_wrong site classes rows done (get_or classes k d) (drop (k + 1) classes) next

-- behind the last of the classes
pub no_later : (site : Site) (classes : List Class) (rows : List Row) (done k : ℕ) → length classes ≤ k
    → AreDone site classes rows (drop k classes) done → AreDone site classes rows [] done
no_later site classes rows done k most are = subst (λ l. AreDone site classes rows l done) (drop_all k classes most) are

-- what is left of the rows, as a slice
pub whole_rest : (rows : List Row) (done : ℕ) → take (length rows - done) (drop done rows) ≡ drop done rows
whole_rest rows done = (let left = length-drop done rows in take_all (length rows - done) (drop done rows) (omega (arith, left)))

pub fit_by : (site : Site) (protected classes : List Class) (rows others : List Row) → AreProtected site protected → classes ≡ protected
    → rows ≡ others → AreFit site classes rows → IsFit site others
fit_by site protected classes rows others are same all fit = record {
  classes = classes;
  protected = subst (AreProtected site) (sym same) are;
  fit = subst (AreFit site classes) all fit;
}
