-- Rows of what lists do, of each column.
use Rattle.std.proofs.Common.{◌≡◌, ◌≢◌, ℕ, zero, suc, ◌+◌, List, [], ◌∷◌, ◌++◌, Some, length, set, inl, inr, refl, sym, ap, ◌∙◌, subst, arith}
use Rattle.std.specs.Prelude.{slice_get}
use Rattle.std.proofs.lemmas.Bool.{cases_eq}
use Rattle.std.proofs.lemmas.List.{length-append}
use Rattle.sy_wire.specs.declared.class.Class.{Class}
use Rattle.sy_select.specs.declared.condition.Test.{Test}
use Rattle.sy_select.specs.Truth.{Formula}
use Rattle.sy_rules.specs.declared.lists.flow.Flow.{Flow}
use Rattle.sy_rules.specs.declared.lists.statement.Statement.{Statement}
use Rattle.sy_rules.specs.internal.FlowWalk.{AreKnownRows, IsKnownRow, flow_of_list}
use Rattle.sy_rules.proofs.lemmas.lists.FlowRows.{each_more, some_same}

-- ---- a list with another element at a place

set_here : {A : Type 0} (xs : List A) (k : ℕ) (x y : A) → slice_get (set xs k x) k ≡ Some y → x ≡ y
set_here [] k x y e = cc
set_here (z ∷ xs) zero x y e = some_same x y e
set_here (z ∷ xs) (suc k) x y e = set_here xs k x y e

set_elsewhere : {A : Type 0} (xs : List A) (k j : ℕ) (x : A) → j ≢ k → slice_get (set xs k x) j ≡ slice_get xs j
set_elsewhere [] k j x apart = refl
set_elsewhere (z ∷ xs) zero zero x apart = absurd (apart refl)
set_elsewhere (z ∷ xs) zero (suc j) x apart = refl
set_elsewhere (z ∷ xs) (suc k) zero x apart = refl
set_elsewhere (z ∷ xs) (suc k) (suc j) x apart = set_elsewhere xs k j x (λ e. apart (ap suc e))

module _ (tests : List (Formula Test)) (tables : List (List Statement)) (classes : List Class) where
  -- ---- rows

  pub no_known_row : (list : ℕ) → IsKnownRow tests tables classes list []
  no_known_row list column flow one e of = cc

  pub none_yet : AreKnownRows tests tables classes []
  none_yet list row e = cc

  pub known_more : (rows new : List (List Flow)) (row : List Flow) → AreKnownRows tests tables classes rows → IsKnownRow tests tables classes (length rows) row → new ≡ rows ++ row ∷ []
      → AreKnownRows tests tables classes new
  known_more rows new row so_far last same =
      subst (AreKnownRows tests tables classes) (sym same) (each_more (λ list r. IsKnownRow tests tables classes list r) rows row so_far last)

  pub known_set : (rows : List (List Flow)) (list : ℕ) (row : List Flow) → AreKnownRows tests tables classes rows → IsKnownRow tests tables classes list row
      → AreKnownRows tests tables classes (set rows list row)
  known_set rows list row are is other found e =
      elim (cases_eq other list) [
        | inl here ↦
            let same : row ≡ found = set_here rows list row found (ap (slice_get (set rows list row)) (sym here) ∙ e) in
            subst (λ l. IsKnownRow tests tables classes l found) (sym here) (subst (IsKnownRow tests tables classes list) same is)
        | inr apart ↦ are other found (sym (set_elsewhere rows list other row apart) ∙ e)
      ]

  -- ---- one row

  pub known_row_more : (list n : ℕ) (class : Class) (row new : List Flow) (flow : Flow) → length row ≡ n → slice_get classes n ≡ Some class
      → flow ≡ flow_of_list class tests tables 17 list 0 → IsKnownRow tests tables classes list row → new ≡ row ++ flow ∷ []
      → (length new ≡ n + 1) × IsKnownRow tests tables classes list new
  known_row_more list n class row new flow size at is so_far same =
      let long = length-append row (flow ∷ []) in
      let P : ℕ → Flow → Type 0 = λ k f. (one : Class) → slice_get classes k ≡ Some one → f ≡ flow_of_list one tests tables 17 list 0 in
      let at_length : slice_get classes (length row) ≡ Some class = ap (slice_get classes) size ∙ at in
      let all = each_more P row flow (λ k f e one of. so_far k f one e of)
      (λ one of. subst (λ (k : Class). flow ≡ flow_of_list k tests tables 17 list 0) (some_same class one (sym at_length ∙ of)) is) in (
        ap length same ∙ omega (arith, long, size),
        subst (IsKnownRow tests tables classes list) (sym same) (λ column f one e of. all column f e one of),
      )
