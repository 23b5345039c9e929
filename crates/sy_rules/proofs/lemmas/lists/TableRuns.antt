-- The walk over tables that are numbered is the walk of the expanded text.
use Rattle.std.proofs.Common.{◌≡◌, ℕ, zero, suc, ◌+◌, ◌≤◌, Bool, true, false, ◌||◌, if◌then◌else◌, List, [], ◌∷◌, ◌++◌, length, take, drop, slice_get, unwrap_or, Option, Some, None, option_map, inl, inr, refl, sym, ap, subst, ◌∙◌, arith, add-zero}
use Rattle.std.specs.Prelude.{◌↔◌}
use Rattle.std.specs.List.{list_any}
use Rattle.std.proofs.lemmas.Bool.{cases_eq}
use Rattle.std.proofs.lemmas.List.Folds.{list_any-append}
use Rattle.std.proofs.lemmas.Option.{slice_get-map}
use Rattle.sy_wire.specs.Messages.{Said}
use Rattle.sy_select.specs.declared.condition.Test.{Test}
use Rattle.sy_select.specs.Properties.{says}
use Rattle.sy_select.specs.Truth.{Formula}
use Rattle.sy_select.specs.internal.Walk.{holds}
use Rattle.sy_rules.specs.Limits.{CALL_DEPTH}
use Rattle.sy_rules.specs.declared.lists.statement.Statement.{Statement}
use Rattle.sy_rules.specs.declared.lists.statement.Statement.TheVariants as statement
use Rattle.sy_rules.specs.declared.lists.walk.Reached.{Reached}
use Rattle.sy_rules.specs.lists.Lines.{Lines, list_at, calls, expand, expanded, is_deeper, body_of}
use Rattle.sy_rules.specs.internal.Flow.{flow, work_flow}
use Rattle.sy_rules.specs.lists.Body.{Body, ◌⧺◌, Walk, ◌then◌, count, is_in}
use Rattle.sy_rules.specs.lists.Body as body
use Rattle.sy_rules.specs.internal.Tables.{test_of, lines_within, lines_of_table, lines_of_tables, table_at, count_of, AreNumbered, AreTables}
use Rattle.sy_rules.specs.internal.TableSizes.{called, occurrences_in}
use Rattle.sy_rules.specs.internal.TableWalk.{followed_by, one, place, run, run_list, take_met, work_of_list}
use Rattle.sy_rules.specs.lists.Sets.{Bits}
use Rattle.sy_rules.specs.lists.Work.{Due, work}
use Rattle.sy_rules.proofs.lemmas.lists.Sets.{place_is, shown, shown_bits, shown_one, shown_then}
use Rattle.sy_rules.proofs.lemmas.lists.SizeLaws.{cut, cut_called, cut_occurrences, short_done, short_otherwise, short_rest, numbered_front, numbered_behind, calls_are, count_is}
use Rattle.sy_rules.proofs.lemmas.lists.Walks.{flow-⧺, work_is}

-- ---- calls that don't lie too deep

pub or_left : (a b : Bool) → (a || b) ≡ false → a ≡ false
or_left true b h = cc
or_left false b h = refl

pub or_right : (a b : Bool) → (a || b) ≡ false → b ≡ false
or_right true b h = cc
or_right false b h = h

module _ (bad : ℕ → Bool) (done otherwise : ℕ) (rest : List Statement) (h : list_any bad (called rest) ≡ false) where
  split : (list_any bad (called (take done rest)) || (list_any bad (called (take otherwise (drop done rest))) || list_any bad (called (drop otherwise (drop done rest))))) ≡ false
  split =
      sym (list_any-append bad (called (take done rest)) (called (take otherwise (drop done rest)) ++ called (drop otherwise (drop done rest)))
      ∙ ap (λ r. list_any bad (called (take done rest)) || r) (list_any-append bad (called (take otherwise (drop done rest))) (called (drop otherwise (drop done rest)))))
      ∙ ap (list_any bad) (sym (cut_called done otherwise rest)) ∙ h

  pub none_in_done : list_any bad (called (take done rest)) ≡ false
  none_in_done = or_left _ _ split

  pub none_in_otherwise : list_any bad (called (take otherwise (drop done rest))) ≡ false
  none_in_otherwise = or_left _ _ (or_right _ _ split)

  pub none_behind : list_any bad (called (drop otherwise (drop done rest))) ≡ false
  none_behind = or_right _ _ (or_right _ _ split)

-- ---- the lists of tables

table_or_none : (tests : List (Formula Test)) (o : Option (List Statement)) → unwrap_or (option_map (lines_of_table tests) o) Lines.End ≡ lines_of_table tests (unwrap_or o [])
table_or_none tests None = refl
table_or_none tests (Some t) = refl

pub list_is : (tests : List (Formula Test)) (tables : List (List Statement)) (l : ℕ) → list_at (lines_of_tables tests tables) l ≡ lines_of_table tests (table_at tables l)
list_is tests tables l = ap (λ (o : Option Lines). unwrap_or o Lines.End) (slice_get-map (lines_of_table tests) tables l) ∙ table_or_none tests (slice_get tables l)

any_less : (bad worse : ℕ → Bool) (xs : List ℕ) → ((l : ℕ) → bad l ≡ false → worse l ≡ false) → list_any bad xs ≡ false → list_any worse xs ≡ false
any_less bad worse [] f h = refl
any_less bad worse (x ∷ xs) f h = let first = f x (or_left _ _ h) in rw first (any_less bad worse xs f (or_right _ _ h))

same_expand : (f g : ℕ → Body) (bad : ℕ → Bool) (x : Lines) → ((l : ℕ) → bad l ≡ false → f l ≡ g l) → list_any bad (calls x) ≡ false → expand f x ≡ expand g x
same_expand f g bad Lines.End e h = refl
same_expand f g bad (Lines.Run a x) e h = ap (Body.Run a) (same_expand f g bad x e h)
same_expand f g bad (Lines.Post l x) e h = ap (Body.Post l) (same_expand f g bad x e h)
same_expand f g bad (Lines.Call l x) e h = let first = e l (or_left _ _ h) in rw first (ap (λ s. g l ⧺ s) (same_expand f g bad x e (or_right _ _ h)))
same_expand f g bad (Lines.Stop x) e h = ap Body.Stop (same_expand f g bad x e h)
same_expand f g bad (Lines.If t d o x) e h =
    let all : (list_any bad (calls d) || (list_any bad (calls o) || list_any bad (calls x))) ≡ false =
    sym (list_any-append bad (calls d) (calls o ++ calls x) ∙ ap (λ b. list_any bad (calls d) || b) (list_any-append bad (calls o) (calls x))) ∙ h in
    let first = same_expand f g bad d e (or_left _ _ all) in
    let second = same_expand f g bad o e (or_left _ _ (or_right _ _ all)) in
    let third = same_expand f g bad x e (or_right _ _ (or_right _ _ all)) in
    rw (first, second, third) refl

pub never : (A : Type 0) → true ≡ false → A
never A e = cc

module _ (lists : List Lines) where
  one_deeper : (d l : ℕ) → is_deeper lists d l ≡ false → (expanded lists (suc d) l ≡ expanded lists d l) × (is_deeper lists (suc d) l ≡ false)
  one_deeper zero l h = (
    same_expand (expanded lists zero) (λ callee. Body.End) (λ callee. true) (list_at lists l) (λ callee e. never _ e) h,
    any_less (λ callee. true) (is_deeper lists zero) (calls (list_at lists l)) (λ callee e. never _ e) h,
  )
  one_deeper (suc d) l h = (
    same_expand (expanded lists (suc d)) (expanded lists d) (is_deeper lists d) (list_at lists l) (λ callee e. (one_deeper d callee e).0) h,
    any_less (is_deeper lists d) (is_deeper lists (suc d)) (calls (list_at lists l)) (λ callee e. (one_deeper d callee e).1) h,
  )

  -- a list whose calls lie no deeper than d is expanded wholly at every depth from d on
  pub more_deep : (e d l : ℕ) → d ≤ e → is_deeper lists d l ≡ false → (expanded lists e l ≡ expanded lists d l) × (is_deeper lists e l ≡ false)
  more_deep zero d l h none = let e : d ≡ zero = omega arith in (ap (λ n. expanded lists n l) (sym e), ap (λ n. is_deeper lists n l) (sym e) ∙ none)
  more_deep (suc e) d l h none =
      elim (cases_eq d (suc e)) [
        | inl same ↦ (ap (λ n. expanded lists n l) (sym same), ap (λ n. is_deeper lists n l) (sym same) ∙ none)
        | inr apart ↦ let before = more_deep e d l (omega arith) none in let more = one_deeper e l before.1 in (more.0 ∙ before.0, more.1)
      ]

-- ---- one table

module _ (tests : List (Formula Test)) (take_of : ℕ → Reached → Reached → Reached) (choose : Formula Test → Walk → Walk → Walk)
    (same : (t : ℕ) (a b : Walk) → take_of t (shown a) (shown b) ≡ shown (choose (test_of tests t) a b)) where
  -- what is known of the lists that a table calls
  record Calls (bad : ℕ → Bool) (become : ℕ → Body) (runs : ℕ → ℕ → Reached) (number_of : ℕ → ℕ) : Type 0 where
    counted : (l : ℕ) → bad l ≡ false → number_of l ≡ count (become l)
    walked : (l base : ℕ) → bad l ≡ false → base + count (become l) ≤ 64 → runs l base ≡ shown (flow choose (become l) base)

  module _ (bad : ℕ → Bool) (become : ℕ → Body) (runs : ℕ → ℕ → Reached) (number_of : ℕ → ℕ) (calls_known : Calls bad become runs number_of) where
    same_counts : (statements : List Statement) → list_any bad (called statements) ≡ false → occurrences_in number_of statements ≡ occurrences_in (λ l. count (become l)) statements
    same_counts [] h = refl
    same_counts (statement.Run a m ∷ rest) h = ap (λ k. 1 + k) (same_counts rest h)
    same_counts (statement.Post l m ∷ rest) h = ap (λ k. 1 + k) (same_counts rest h)
    same_counts (statement.Call l m ∷ rest) h = rw (calls_known.counted l (or_left _ _ h)) (ap (λ k. count (become l) + k) (same_counts rest (or_right _ _ h)))
    same_counts (statement.Stop ∷ rest) h = same_counts rest h
    same_counts (statement.If t d o ∷ rest) h = same_counts rest h

    lines_count : (most : ℕ) (statements : List Statement) → length statements ≤ most → list_any bad (called statements) ≡ false → count (expand become (lines_within tests most statements)) ≡ occurrences_in number_of statements
    lines_count most statements h none = count_is tests become most statements h ∙ sym (same_counts statements none)

    -- a part and what follows
    follows : (x y : Reached) (a b : Walk) → x ≡ shown a → y ≡ shown b → followed_by x y ≡ shown (a then b)
    follows x y a b e f = ap (λ r. followed_by r y) e ∙ ap (followed_by (shown a)) f ∙ sym (shown_then a b)

    runs_as : (most : ℕ) (statements : List Statement) (n base : ℕ) → length statements ≤ most → AreNumbered number_of n statements → list_any bad (called statements) ≡ false
        → base + n + occurrences_in number_of statements ≤ 64
        → run take_of runs most statements base ≡ shown (flow choose (expand become (lines_within tests most statements)) (base + n))
    runs_as zero [] n base h are none few = refl
    runs_as zero (s ∷ statements) n base h are none few = absurd (omega arith)
    runs_as (suc most) [] n base h are none few = refl
    runs_as (suc most) (statement.Run a m ∷ rest) n base h are none few =
        let at : base + (n + 1) ≡ base + n + 1 = omega arith in
        follows (one (place base m)) (run take_of runs most rest base) (body.one (base + n)) (flow choose (expand become (lines_within tests most rest)) (base + n + 1))
        (shown_one base n m are.0 (omega arith))
        (runs_as most rest (n + 1) base (omega arith) are.1 none (omega arith) ∙ ap (λ k. shown (flow choose (expand become (lines_within tests most rest)) k)) at)
    runs_as (suc most) (statement.Post l m ∷ rest) n base h are none few =
        let at : base + (n + 1) ≡ base + n + 1 = omega arith in
        follows (one (place base m)) (run take_of runs most rest base) (body.one (base + n)) (flow choose (expand become (lines_within tests most rest)) (base + n + 1))
        (shown_one base n m are.0 (omega arith))
        (runs_as most rest (n + 1) base (omega arith) are.1 none (omega arith) ∙ ap (λ k. shown (flow choose (expand become (lines_within tests most rest)) k)) at)
    runs_as (suc most) (statement.Call l m ∷ rest) n base h are none few =
        let e : m ≡ n = are.0 in
        let fine = or_left _ _ none in
        let counted = calls_known.counted l fine in
        let at : base + (n + number_of l) ≡ base + n + count (become l) = omega arith in
        let there : place base m ≡ base + n = ap (place base) e ∙ place_is base n (omega arith) in
        let text = expand become (lines_within tests most rest) in
        follows (runs l (place base m)) (run take_of runs most rest base) (flow choose (become l) (base + n)) (flow choose text (base + n + count (become l)))
        (ap (runs l) there ∙ calls_known.walked l (base + n) fine (omega arith))
        (runs_as most rest (n + number_of l) base (omega arith) are.1 (or_right _ _ none) (omega arith) ∙ ap (λ k. shown (flow choose text k)) at)
        ∙ ap shown (sym (flow-⧺ choose (become l) text (base + n)))
    runs_as (suc most) (statement.Stop ∷ rest) n base h are none few = refl
    runs_as (suc most) (statement.If t d o ∷ rest) n base h are none few =
        let ds = take d rest in
        let os = take o (drop d rest) in
        let rs = drop o (drop d rest) in
        let text = λ (statements : List Statement). expand become (lines_within tests most statements) in
        let all = cut_occurrences d o rest number_of in
        let parts : AreNumbered number_of n (ds ++ (os ++ rs)) = subst (AreNumbered number_of n) (cut d o rest) are in
        let behind_done = numbered_behind number_of n ds (os ++ rs) parts in
        let short = short_done d o rest most (omega arith) in
        let short_other = short_otherwise d o rest most (omega arith) in
        let c_done = lines_count most ds short (none_in_done bad d o rest none) in
        let c_other = lines_count most os short_other (none_in_otherwise bad d o rest none) in
        let first = runs_as most ds n base short (numbered_front number_of n ds (os ++ rs) parts) (none_in_done bad d o rest none) (omega arith) in
        let second = runs_as most os (n + occurrences_in number_of ds) base short_other (numbered_front number_of _ os rs behind_done) (none_in_otherwise bad d o rest none) (omega arith) in
        let at_other : base + (n + occurrences_in number_of ds) ≡ base + n + count (text ds) = omega arith in
        let at_rest : base + (n + occurrences_in number_of ds + occurrences_in number_of os) ≡ base + n + count (text ds) + count (text os) = omega arith in
        let third = runs_as most rs (n + occurrences_in number_of ds + occurrences_in number_of os) base (short_rest d o rest most (omega arith))
        (numbered_behind number_of _ os rs behind_done) (none_behind bad d o rest none) (omega arith) in
        let p = flow choose (text ds) (base + n) in
        let q = flow choose (text os) (base + n + count (text ds)) in
        let other : run take_of runs most os base ≡ shown q = second ∙ ap (λ k. shown (flow choose (text os) k)) at_other in
        follows (take_of t (run take_of runs most ds base) (run take_of runs most os base)) (run take_of runs most rs base)
        (choose (test_of tests t) p q) (flow choose (text rs) (base + n + count (text ds) + count (text os)))
        (ap (λ r. take_of t r (run take_of runs most os base)) first ∙ ap (take_of t (shown p)) other ∙ same t p q)
        (third ∙ ap (λ k. shown (flow choose (text rs) k)) at_rest)

  -- ---- the walk of a list

  module _ (tables : List (List Statement)) (are : AreTables tests tables) where
    one_list : (bad : ℕ → Bool) (become : ℕ → Body) (runs : ℕ → ℕ → Reached) (l base : ℕ) → Calls bad become runs (count_of (lines_of_tables tests tables))
        → list_any bad (calls (list_at (lines_of_tables tests tables) l)) ≡ false → base + count (expand become (list_at (lines_of_tables tests tables) l)) ≤ 64
        → run take_of runs (length (table_at tables l)) (table_at tables l) base ≡ shown (flow choose (expand become (list_at (lines_of_tables tests tables) l)) base)
    one_list bad become runs l base calls_known none few =
        let lists = lines_of_tables tests tables in
        let table = table_at tables l in
        let n = length table in
        let written = list_is tests tables l in
        let flat : list_any bad (called table) ≡ false = ap (list_any bad) (sym (ap calls written ∙ calls_are tests n table (omega arith))) ∙ none in
        let counted : count (expand become (list_at lists l)) ≡ occurrences_in (count_of lists) table =
        ap (λ x. count (expand become x)) written ∙ lines_count bad become runs (count_of lists) calls_known n table (omega arith) flat in
        runs_as bad become runs (count_of lists) calls_known n table 0 base (omega arith) (are.numbered l) flat (omega arith)
        ∙ ap (λ k. shown (flow choose (expand become (lines_within tests n table)) k)) (add-zero base)
        ∙ ap (λ x. shown (flow choose (expand become x) base)) (sym written)

    pub list_runs : (depth l base : ℕ) → depth ≤ CALL_DEPTH → is_deeper (lines_of_tables tests tables) depth l ≡ false → base + count (expanded (lines_of_tables tests tables) depth l) ≤ 64
        → run_list take_of tables (suc depth) l base ≡ shown (flow choose (expanded (lines_of_tables tests tables) depth l) base)
    list_runs zero l base h none few =
        one_list (λ callee. true) (λ callee. Body.End) (run_list take_of tables zero) l base
        (record { counted = λ callee e. never _ e; walked = λ callee b e. never _ e }) none few
    list_runs (suc depth) l base h none few =
        let lists = lines_of_tables tests tables in
        one_list (is_deeper lists depth) (expanded lists depth) (run_list take_of tables (suc depth)) l base
        (record {
          counted = λ callee e. ap count (more_deep lists CALL_DEPTH depth callee (omega arith) e).0;
          walked = λ callee b e small. list_runs depth callee b (omega arith) e small;
        }) none few

-- ---- the work of a message

shown_met : (b : Bool) (x y : Walk) → take_met b (shown x) (shown y) ≡ shown (if b then x else y)
shown_met true x y = refl
shown_met false x y = refl

same_numbers : (P : ℕ → Bool) (Q : ℕ → Bool) → ((k : ℕ) → P k ≡ Q k) → (k : ℕ) → (P k ≡ true) ↔ (Q k ≡ true)
same_numbers P Q e k = (λ h. sym (e k) ∙ h, λ h. e k ∙ h)

-- the set that the walk of a list gives for a message
pub work_set : (tests : List (Formula Test)) (tables : List (List Statement)) (m : Said) (l : ℕ) → AreTables tests tables
    → Bits (Due (body_of (lines_of_tables tests tables) l) m) (work_of_list (says m) tests tables (suc CALL_DEPTH) l 0).set
work_set tests tables m l are =
    let s = body_of (lines_of_tables tests tables) l in
    let few = are.few l in
    shown_bits (Due s m) (work_flow (holds (says m)) s 0) (work_of_list (says m) tests tables (suc CALL_DEPTH) l 0)
    (list_runs tests (λ t. take_met (holds (says m) (test_of tests t))) (λ x a b. if holds (says m) x then a else b) (λ t. shown_met (holds (says m) (test_of tests t))) tables are CALL_DEPTH l 0 (omega arith) (are.not_deeper l) (omega arith))
    (same_numbers (λ k. is_in k (work_flow (holds (says m)) s 0).executed) (λ k. is_in k (work s m)) (λ k. ap (is_in k) (sym (work_is s m))))
