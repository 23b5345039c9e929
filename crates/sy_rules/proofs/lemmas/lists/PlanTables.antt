-- That tables are those of a plan, from what was checked of their sizes and how they were numbered.
use Rattle.std.proofs.Common.{◌≡◌, ℕ, zero, suc, ◌+◌, ◌≤◌, ◌<◌, Bool, true, false, ◌||◌, ◌⊎◌, nat_lt, List, [], ◌∷◌, ◌++◌, length, drop, inl, inr, refl, sym, ap, subst, ◌∙◌, arith}
use Rattle.std.proofs.lemmas.Bool.{cases_lt, ltb-false}
use Rattle.sy_select.specs.declared.condition.Test.{Test}
use Rattle.sy_select.specs.Truth.{Formula}
use Rattle.sy_rules.specs.Limits.{CALL_DEPTH, OCCURRENCES, STATEMENTS}
use Rattle.sy_rules.specs.declared.fault.PlanFault.{PlanFault}
use Rattle.sy_rules.specs.declared.lists.sizes.Size.{Size}
use Rattle.sy_rules.specs.declared.lists.statement.Statement.{Statement}
use Rattle.sy_rules.specs.declared.lists.statement.Statement.TheVariants as statement
use Rattle.sy_rules.specs.Faults.{when}
use Rattle.sy_rules.specs.lists.Lines.{Lines, list_at, expand, expanded, is_deeper, statements_of}
use Rattle.sy_rules.specs.internal.Numbering.{count_in, AreFew, IsSingle, AreSingles}
use Rattle.sy_rules.specs.check.ScriptFaults.{Head, list_faults, faults_of_lists}
use Rattle.sy_rules.specs.lists.Body.{count}
use Rattle.sy_rules.specs.internal.Tables.{lines_of_table, lines_of_tables, table_at, count_of, AreNumbered, AreTables}
use Rattle.sy_rules.specs.internal.TableSizes.{AreSizes, occurrences_in, up_to}
use Rattle.sy_rules.proofs.lemmas.lists.Numbering.{are_few}
use Rattle.sy_rules.proofs.lemmas.lists.SizeLaws.{count_is}
use Rattle.sy_rules.proofs.lemmas.lists.TableRuns.{list_is, more_deep}

-- a list that is not too deep, and has not too many statements and occurrences
pub record Fits (lists : List Lines) (l : ℕ) : Type 0 where
  pub not_deeper : is_deeper lists CALL_DEPTH l ≡ false
  pub small : statements_of lists l ≤ STATEMENTS
  pub few : count_of lists l ≤ 64

front_none : (xs ys : List PlanFault) → xs ++ ys ≡ [] → xs ≡ []
front_none [] ys h = refl
front_none (x ∷ xs) ys h = cc

behind_none : (xs ys : List PlanFault) → xs ++ ys ≡ [] → ys ≡ []
behind_none [] ys h = h
behind_none (x ∷ xs) ys h = cc

not_there : (b : Bool) (f : PlanFault) → when b f ≡ [] → b ≡ false
not_there true f h = cc
not_there false f h = refl

or_left : (a b : Bool) → (a || b) ≡ false → a ≡ false
or_left true b h = cc
or_left false b h = refl

or_right : (a b : Bool) → (a || b) ≡ false → b ≡ false
or_right true b h = cc
or_right false b h = h

no_fault_fits : (lists : List Lines) (head : Head) (l : ℕ) → list_faults lists head l ≡ [] → Fits lists l
no_fault_fits lists head l none =
    let many = nat_lt STATEMENTS (statements_of lists l) || nat_lt OCCURRENCES (count_of lists l) in
    record {
      not_deeper = not_there _ _ (front_none _ _ none);
      small = ltb-false STATEMENTS (statements_of lists l) (or_left _ _ (not_there many _ (behind_none _ _ none)));
      few = ltb-false OCCURRENCES (count_of lists l) (or_right _ _ (not_there many _ (behind_none _ _ none)));
    }

-- lists without a fault fit
pub headed_fit : (lists : List Lines) (l : ℕ) (heads : List Head) (k : ℕ) → faults_of_lists lists l heads ≡ [] → k < length heads → Fits lists (l + k)
headed_fit lists l [] k none within = absurd (omega arith)
headed_fit lists l (head ∷ heads) zero none within = let e : l ≡ l + 0 = omega arith in subst (Fits lists) e (no_fault_fits lists head l (front_none _ _ none))
headed_fit lists l (head ∷ heads) (suc k) none within =
    let e : l + 1 + k ≡ l + suc k = omega arith in subst (Fits lists) e (headed_fit lists (l + 1) heads k (behind_none _ _ none) (omega arith))

-- a list that runs one action and no more
pub single_fits : (lists : List Lines) (l a : ℕ) → list_at lists l ≡ Lines.Run a Lines.End → Fits lists l
single_fits lists l a is = record { not_deeper = rw is refl; small = rw is (omega arith); few = rw is (omega arith) }

-- a number after the last list
pub none_fits : (lists : List Lines) (l : ℕ) → list_at lists l ≡ Lines.End → Fits lists l
none_fits lists l is = record { not_deeper = rw is refl; small = rw is (omega arith); few = rw is (omega arith) }

single_table : (tests : List (Formula Test)) (lists : List Lines) (l : ℕ) (table : List Statement) → list_at lists l ≡ lines_of_table tests table → IsSingle table → Fits lists l
single_table tests lists l (statement.Run a n ∷ []) is single = single_fits lists l a is
single_table tests lists l [] is single = absurd single
single_table tests lists l (statement.Run a n ∷ s ∷ rest) is single = absurd single
single_table tests lists l (statement.Post a n ∷ rest) is single = absurd single
single_table tests lists l (statement.Call a n ∷ rest) is single = absurd single
single_table tests lists l (statement.Stop ∷ rest) is single = absurd single
single_table tests lists l (statement.If t d o ∷ rest) is single = absurd single

single_at : (tables : List (List Statement)) (l : ℕ) → AreSingles tables → IsSingle (table_at tables l) ⊎ (table_at tables l ≡ [])
single_at [] l are = inr refl
single_at (t ∷ tables) zero are = inl are.0
single_at (t ∷ tables) (suc l) are = single_at tables l are.1

single_behind : (tables : List (List Statement)) (n l : ℕ) → n ≤ l → AreSingles (drop n tables) → IsSingle (table_at tables l) ⊎ (table_at tables l ≡ [])
single_behind tables zero l h are = single_at tables l are
single_behind [] (suc n) l h are = inr refl
single_behind (t ∷ tables) (suc n) zero h are = absurd (omega arith)
single_behind (t ∷ tables) (suc n) (suc l) h are = single_behind tables n l (omega arith) are

-- lists of single actions after the others fit
pub singles_fit : (tests : List (Formula Test)) (tables : List (List Statement)) (n : ℕ) → AreSingles (drop n tables) → (l : ℕ) → n ≤ l → Fits (lines_of_tables tests tables) l
singles_fit tests tables n are l h =
    elim (single_behind tables n l h are) [
      | inl single ↦ single_table tests (lines_of_tables tests tables) l (table_at tables l) (list_is tests tables l) single
      | inr none ↦ none_fits (lines_of_tables tests tables) l (list_is tests tables l ∙ ap (lines_of_table tests) none)
    ]

-- where the lists with heads have no fault, and the others fit, all fit
pub all_fit : (lists : List Lines) (heads : List Head) → faults_of_lists lists 0 heads ≡ [] → ((l : ℕ) → length heads ≤ l → Fits lists l) → (l : ℕ) → Fits lists l
all_fit lists heads none others l =
    elim (cases_lt l (length heads)) [
      | inl headed ↦ let e : 0 + l ≡ l = omega arith in subst (Fits lists) e (headed_fit lists 0 heads l none headed)
      | inr other ↦ others l other
    ]

-- ---- counts by sizes

same_in : (f g : ℕ → ℕ) → ((l : ℕ) → f l ≡ g l) → (statements : List Statement) → occurrences_in f statements ≡ occurrences_in g statements
same_in f g h [] = refl
same_in f g h (statement.Run a n ∷ rest) = ap (λ m. 1 + m) (same_in f g h rest)
same_in f g h (statement.Post l n ∷ rest) = ap (λ m. 1 + m) (same_in f g h rest)
same_in f g h (statement.Call l n ∷ rest) = ap (λ m. m + occurrences_in f rest) (h l) ∙ ap (λ m. g l + m) (same_in f g h rest)
same_in f g h (statement.Stop ∷ rest) = same_in f g h rest
same_in f g h (statement.If t d o ∷ rest) = same_in f g h rest

same_numbers : (f g : ℕ → ℕ) → ((l : ℕ) → f l ≡ g l) → (number : ℕ) (statements : List Statement) → AreNumbered f number statements → AreNumbered g number statements
same_numbers f g h number [] are = tt
same_numbers f g h number (statement.Run a n ∷ rest) are = (are.0, same_numbers f g h (number + 1) rest are.1)
same_numbers f g h number (statement.Post l n ∷ rest) are = (are.0, same_numbers f g h (number + 1) rest are.1)
same_numbers f g h number (statement.Call l n ∷ rest) are =
    (are.0, subst (λ m. AreNumbered g (number + m) rest) (h l) (same_numbers f g h (number + f l) rest are.1))
same_numbers f g h number (statement.Stop ∷ rest) are = same_numbers f g h number rest are
same_numbers f g h number (statement.If t d o ∷ rest) are = same_numbers f g h number rest are

module _ (tests : List (Formula Test)) (tables : List (List Statement)) (sizes : List Size) (are : AreSizes tables CALL_DEPTH sizes) (fit : (l : ℕ) → Fits (lines_of_tables tests tables) l) where
  pub counts : (l : ℕ) → count_in sizes l ≡ count_of (lines_of_tables tests tables) l
  counts l = ap (λ (s : Size). s.occurrences) (are tests l) ∙ exact (count_of (lines_of_tables tests tables) l) (fit l).few
    where
      exact : (n : ℕ) → n ≤ 64 → up_to OCCURRENCES n ≡ n
      exact n h = omega arith

  -- so the numbers of a table go no further than 64
  pub few_numbers : (l : ℕ) → occurrences_in (count_in sizes) (table_at tables l) ≤ 64
  few_numbers l =
      let lists = lines_of_tables tests tables in
      let table = table_at tables l in
      let counted = count_is tests (expanded lists CALL_DEPTH) (length table) table (omega arith) in
      let same = same_in (count_in sizes) (count_of lists) counts table in
      let deep : count (expanded lists (suc CALL_DEPTH) l) ≡ count_of lists l = ap count (more_deep lists (suc CALL_DEPTH) CALL_DEPTH l (omega arith) (fit l).not_deeper).0 in
      let lines : count (expanded lists (suc CALL_DEPTH) l) ≡ count (expand (expanded lists CALL_DEPTH) (lines_of_table tests table)) = ap (λ x. count (expand (expanded lists CALL_DEPTH) x)) (list_is tests tables l) in
      at_most _ _ (same ∙ sym counted ∙ sym lines ∙ deep) (fit l).few
    where
      at_most : (n m : ℕ) → n ≡ m → m ≤ 64 → n ≤ 64
      at_most n m e h = omega arith

  pub are_few_numbers : AreFew (count_in sizes) tables
  are_few_numbers = are_few (count_in sizes) tables few_numbers

  pub are_tables : (numbered : List (List Statement)) → lines_of_tables tests numbered ≡ lines_of_tables tests tables → ((l : ℕ) → AreNumbered (count_in sizes) 0 (table_at numbered l)) → AreTables tests numbered
  are_tables numbered same numbers = record {
    not_deeper = λ l. subst (λ (lists : List Lines). is_deeper lists CALL_DEPTH l ≡ false) (sym same) (fit l).not_deeper;
    small = λ l. subst (λ (lists : List Lines). statements_of lists l ≤ STATEMENTS) (sym same) (fit l).small;
    few = λ l. subst (λ (lists : List Lines). count_of lists l ≤ 64) (sym same) (fit l).few;
    numbered = λ l. subst (λ (lists : List Lines). AreNumbered (count_of lists) 0 (table_at numbered l)) (sym same)
        (same_numbers (count_in sizes) (count_of (lines_of_tables tests tables)) counts 0 (table_at numbered l) (numbers l));
  }

-- the lists of a plan: those with heads have no fault, and those after them run one action each
pub plan_fits : (tests : List (Formula Test)) (tables : List (List Statement)) (heads : List Head) → faults_of_lists (lines_of_tables tests tables) 0 heads ≡ [] → AreSingles (drop (length heads) tables)
    → (l : ℕ) → Fits (lines_of_tables tests tables) l
plan_fits tests tables heads none singles = all_fit (lines_of_tables tests tables) heads none (singles_fit tests tables (length heads) singles)
