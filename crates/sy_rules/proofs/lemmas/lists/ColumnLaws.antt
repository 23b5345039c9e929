-- Classes in columns, one class after the other.
use Rattle.std.proofs.Common.{◌≡◌, ℕ, zero, suc, ◌+◌, ◌<◌, ◌≤◌, List, [], ◌∷◌, ◌++◌, Option, Some, length, unwrap_or, inl, inr, refl, sym, ap, ◌∙◌, subst, arith, append-nil, get_or, get_or-set_other, get_or-set_same}
use Rattle.std.specs.Prelude.{slice_get}
use Rattle.std.proofs.Math.ListN.{length-set, set}
use Rattle.std.proofs.lemmas.Bool.{cases_eq, cases_lt}
use Rattle.std.proofs.lemmas.List.{length-append}
use Rattle.std.proofs.lemmas.Option.{slice_get_past}
use Rattle.sy_wire.specs.declared.class.Class.{Class}
use Rattle.sy_select.specs.declared.condition.Test.{Test}
use Rattle.sy_select.specs.Properties.{known}
use Rattle.sy_select.specs.Truth.{Formula}
use Rattle.sy_select.specs.internal.Walk.{verdict}
use Rattle.sy_rules.specs.declared.lists.columns.Columns.{Columns}
use Rattle.sy_rules.specs.internal.ClassFlows.{AreAlike, AreColumns, HasAlike, column_in, number_of}
use Rattle.sy_rules.specs.internal.FlowWalk.{judged}
use Rattle.sy_rules.specs.internal.Tables.{test_of}
use Rattle.sy_rules.proofs.lemmas.lists.ClassVerdicts.{same_class}

-- ---- tests

-- the tests below n say the same of both
abbrev pub AlikeSoFar : ℕ → List (Formula Test) → Class → Class → Type 0
AlikeSoFar n tests one other = (test : ℕ) → test < n → judged one tests test ≡ judged other tests test

pub alike_more : (n : ℕ) (tests : List (Formula Test)) (x : Formula Test) (one other : Class) → slice_get tests n ≡ Some x → verdict (known one) x ≡ verdict (known other) x
    → AlikeSoFar n tests one other → AlikeSoFar (n + 1) tests one other
alike_more n tests x one other at same so_far test low = elim (cases_eq test n) [
  | inl here ↦
      let it : test_of tests test ≡ x = ap (test_of tests) here ∙ ap (λ (o : Option (Formula Test)). unwrap_or o Formula.Never) at in
      ap (verdict (known one)) it ∙ same ∙ sym (ap (verdict (known other)) it)
  | inr apart ↦ so_far test (omega (arith, low, apart))
]

-- beyond the last test there is none, of which all classes say the same
pub alike_all : (n : ℕ) (tests : List (Formula Test)) (one other : Class) → length tests ≤ n → AlikeSoFar n tests one other → AreAlike tests one other
alike_all n tests one other all so_far test = elim (cases_lt test n) [
  | inl low ↦ so_far test low
  | inr high ↦
      let none : test_of tests test ≡ Formula.Never = ap (λ (o : Option (Formula Test)). unwrap_or o Formula.Never) (slice_get_past tests test (omega (arith, all, high))) in
      ap (verdict (known one)) none ∙ sym (ap (verdict (known other)) none)
]

-- ---- classes

same_number : (a b : Class) → number_of a ≡ number_of b → a ≡ b
same_number a b e =
    let f : a.facility ≡ b.facility = omega (arith, e, a.severity_in_range, b.severity_in_range) in
    let s : a.severity ≡ b.severity = omega (arith, e, a.severity_in_range, b.severity_in_range) in
    same_class a b f s

slice_get_more : {A : Type 0} (xs ys : List A) (k : ℕ) (x : A) → slice_get xs k ≡ Some x → slice_get (xs ++ ys) k ≡ Some x
slice_get_more [] ys k x e = cc
slice_get_more (y ∷ xs) ys zero x e = e
slice_get_more (y ∷ xs) ys (suc k) x e = slice_get_more xs ys k x e

slice_get_last : {A : Type 0} (xs : List A) (x : A) → slice_get (xs ++ x ∷ []) (length xs) ≡ Some x
slice_get_last [] x = refl
slice_get_last (y ∷ xs) x = slice_get_last xs x

-- the classes below n have their columns
pub record ColumnsSoFar (n : ℕ) (tests : List (Formula Test)) (of_class : List ℕ) (classes : List Class) : Type 0 where
  pub size : length of_class ≡ 192
  pub few : length classes ≤ n
  pub done : (class : Class) → number_of class < n → HasAlike tests classes (column_in of_class class) class

-- more classes at the end
alike_within : (tests : List (Formula Test)) (classes more : List Class) (column : ℕ) (class : Class) → HasAlike tests classes column class → HasAlike tests (classes ++ more) column class
alike_within tests classes more column class h = record { one = h.one; there = slice_get_more classes more column h.one h.there; alike = h.alike }

pub alike_last : (tests : List (Formula Test)) (classes : List Class) (class : Class) → HasAlike tests (classes ++ class ∷ []) (length classes) class
alike_last tests classes class = record { one = class; there = slice_get_last classes class; alike = λ test. refl }

-- the column of one class more, and maybe a column more
pub columns_more : (n : ℕ) (tests : List (Formula Test)) (of_class : List ℕ) (classes more : List Class) (class : Class) (column : ℕ) → number_of class ≡ n → n < 192
    → ColumnsSoFar n tests of_class classes → length (classes ++ more) ≤ n + 1 → HasAlike tests (classes ++ more) column class
    → ColumnsSoFar (n + 1) tests (set of_class n column) (classes ++ more)
columns_more n tests of_class classes more class column is low so_far few found = record {
  size = length-set of_class n column ∙ so_far.size;
  few = few;
  done = λ other below. elim (cases_eq (number_of other) n) [
    | inl same ↦
        let there : n < length of_class = omega (arith, so_far.size, low) in
        let here : column_in (set of_class n column) other ≡ column =
        ap (λ k. get_or (set of_class n column) k 0) same ∙ get_or-set_same of_class n column 0 there in
        let it : class ≡ other = same_number class other (is ∙ sym same) in
        subst (λ k. HasAlike tests (classes ++ more) k other) (sym here) (subst (HasAlike tests (classes ++ more) column) it found)
    | inr apart ↦
        let kept : column_in (set of_class n column) other ≡ column_in of_class other = get_or-set_other of_class n (number_of other) column 0 apart in
        subst (λ k. HasAlike tests (classes ++ more) k other) (sym kept)
        (alike_within tests classes more (column_in of_class other) other (so_far.done other (omega (arith, below, apart))))
  ];
}

-- the same where the place and the classes have other names
pub columns_new : (n at : ℕ) (tests : List (Formula Test)) (of_class : List ℕ) (classes new : List Class) (class : Class) (column : ℕ) → at ≡ n → number_of class ≡ n → n < 192
    → ColumnsSoFar n tests of_class classes → column ≡ length classes → new ≡ classes ++ class ∷ [] → ColumnsSoFar (n + 1) tests (set of_class at column) new
columns_new n at tests of_class classes new class column here is low so_far last same =
    let long = length-append classes (class ∷ []) in
    let found = subst (λ k. HasAlike tests (classes ++ class ∷ []) k class) (sym last) (alike_last tests classes class) in
    rw (here, same) (columns_more n tests of_class classes (class ∷ []) class column is low so_far (omega (arith, long, so_far.few)) found)

pub columns_kept : (n at : ℕ) (tests : List (Formula Test)) (of_class : List ℕ) (classes new : List Class) (class : Class) (column : ℕ) → at ≡ n → number_of class ≡ n → n < 192
    → ColumnsSoFar n tests of_class classes → HasAlike tests classes column class → new ≡ classes → ColumnsSoFar (n + 1) tests (set of_class at column) new
columns_kept n at tests of_class classes new class column here is low so_far found same =
    let long = length-append classes [] in
    let all = append-nil classes in
    rw (here, same) (subst (ColumnsSoFar (n + 1) tests (set of_class n column)) all
    (columns_more n tests of_class classes [] class column is low so_far (omega (arith, long, so_far.few)) (alike_within tests classes [] column class found)))

pub columns_all : (tests : List (Formula Test)) (c : Columns) → ColumnsSoFar 192 tests c.of_class c.classes.items → AreColumns tests c
columns_all tests c so_far class = so_far.done class (omega (arith, class.facility_in_range, class.severity_in_range))
