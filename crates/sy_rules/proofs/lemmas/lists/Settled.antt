-- In a plan's tables no call lies deeper than lists may lie in one another, so that a walk that may go deeper does the same.
use Rattle.std.proofs.Common.{◌≡◌, ℕ, zero, suc, ◌+◌, ◌-◌, ◌≤◌, Bool, true, false, List, [], ◌∷◌, length, take, drop, refl, sym, ap, ◌∙◌, arith}
use Rattle.std.specs.Prelude.{IfSome, Option, Some, None, slice_get}
use Rattle.std.specs.List.{list_any}
use Rattle.sy_wire.specs.declared.class.Class.{Class}
use Rattle.sy_select.specs.declared.condition.Test.{Test}
use Rattle.sy_select.specs.declared.verdict.Verdict.{Verdict}
use Rattle.sy_select.specs.Truth.{Formula}
use Rattle.sy_rules.specs.declared.lists.decided.Head.{Head}
use Rattle.sy_rules.specs.declared.lists.flow.Flow.{Flow}
use Rattle.sy_rules.specs.declared.lists.statement.Statement.{Statement}
use Rattle.sy_rules.specs.declared.lists.statement.Statement.TheVariants as statement
use Rattle.sy_rules.specs.declared.lists.walk.Reached.{Reached}
use Rattle.sy_rules.specs.internal.ClassFlows.{IsHead, IsHeadAt, executes}
use Rattle.sy_rules.specs.internal.FlowWalk.{AreKnown, AreKnownRows, flow_of_list, flow_turned, judged, known_in, may_take, must_take}
use Rattle.sy_rules.specs.internal.TableSizes.{called}
use Rattle.sy_rules.specs.internal.TableWalk.{followed_by, one, place, run, run_list, run_statements, take_met}
use Rattle.sy_rules.specs.internal.Tables.{AreTables, lines_of_tables, table_at}
use Rattle.sy_rules.specs.lists.Lines.{calls, is_deeper, list_at}
use Rattle.sy_rules.proofs.lemmas.lists.SizeLaws.{calls_are}
use Rattle.sy_rules.proofs.lemmas.lists.TableRuns.{list_is, more_deep, never, none_behind, none_in_done, none_in_otherwise, or_left, or_right}
use Rattle.sy_rules.proofs.lemmas.lists.Turns.{list_is_turned}

-- what a table does hangs on what the lists do that it calls
same_run : (take_of : ℕ → Reached → Reached → Reached) (f g : ℕ → ℕ → Reached) (bad : ℕ → Bool) → ((l base : ℕ) → bad l ≡ false → f l base ≡ g l base)
    → (most : ℕ) (statements : List Statement) (base : ℕ) → list_any bad (called statements) ≡ false → run take_of f most statements base ≡ run take_of g most statements base
same_run take_of f g bad same zero statements base h = refl
same_run take_of f g bad same (suc most) [] base h = refl
same_run take_of f g bad same (suc most) (statement.Run a n ∷ rest) base h = ap (followed_by (one (place base n))) (same_run take_of f g bad same most rest base h)
same_run take_of f g bad same (suc most) (statement.Post l n ∷ rest) base h = ap (followed_by (one (place base n))) (same_run take_of f g bad same most rest base h)
same_run take_of f g bad same (suc most) (statement.Call l n ∷ rest) base h =
    ap (λ r. followed_by r (run take_of f most rest base)) (same l (place base n) (or_left _ _ h))
    ∙ ap (followed_by (g l (place base n))) (same_run take_of f g bad same most rest base (or_right _ _ h))
same_run take_of f g bad same (suc most) (statement.Stop ∷ rest) base h = refl
same_run take_of f g bad same (suc most) (statement.If t d o ∷ rest) base h =
    let first = same_run take_of f g bad same most (take d rest) base (none_in_done bad d o rest h) in
    let second = same_run take_of f g bad same most (take o (drop d rest)) base (none_in_otherwise bad d o rest h) in
    let third = same_run take_of f g bad same most (drop o (drop d rest)) base (none_behind bad d o rest h) in
    rw (first, second, third) refl

module _ (tests : List (Formula Test)) (tables : List (List Statement)) where
  -- none of the lists that a table calls is bad where none is that its lines call
  flat : (bad : ℕ → Bool) (l : ℕ) → list_any bad (calls (list_at (lines_of_tables tests tables) l)) ≡ false → list_any bad (called (table_at tables l)) ≡ false
  flat bad l none = ap (list_any bad) (sym (ap calls (list_is tests tables l) ∙ calls_are tests (length (table_at tables l)) (table_at tables l) (omega arith))) ∙ none

  -- one deeper
  settled : (take_of : ℕ → Reached → Reached → Reached) (depth l base : ℕ) → is_deeper (lines_of_tables tests tables) depth l ≡ false
      → run_list take_of tables (suc (suc depth)) l base ≡ run_list take_of tables (suc depth) l base
  settled take_of zero l base h =
      same_run take_of (run_list take_of tables 1) (run_list take_of tables 0) (λ callee. true) (λ callee b e. never _ e)
      (length (table_at tables l)) (table_at tables l) base (flat (λ callee. true) l h)
  settled take_of (suc depth) l base h =
      same_run take_of (run_list take_of tables (suc (suc depth))) (run_list take_of tables (suc depth)) (is_deeper (lines_of_tables tests tables) depth)
      (λ callee b e. settled take_of depth callee b e)
      (length (table_at tables l)) (table_at tables l) base (flat (is_deeper (lines_of_tables tests tables) depth) l h)

  module _ (are : AreTables tests tables) where
    deeper : (take_of : ℕ → Reached → Reached → Reached) (more l base : ℕ) → run_list take_of tables (17 + more) l base ≡ run_list take_of tables 17 l base
    deeper take_of zero l base = refl
    deeper take_of (suc more) l base =
        let next : 17 + suc more ≡ suc (suc (16 + more)) = omega arith in
        let here : suc (16 + more) ≡ 17 + more = omega arith in
        ap (λ d. run_list take_of tables d l base) next
        ∙ settled take_of (16 + more) l base (more_deep (lines_of_tables tests tables) (16 + more) 16 l (omega arith) (are.not_deeper l)).1
        ∙ ap (λ d. run_list take_of tables d l base) here ∙ deeper take_of more l base

    as_deep : (take_of : ℕ → Reached → Reached → Reached) (depth l base : ℕ) → 17 ≤ depth → run_list take_of tables depth l base ≡ run_list take_of tables 17 l base
    as_deep take_of depth l base h =
        let is : depth ≡ 17 + (depth - 17) = omega (arith, h) in
        ap (λ d. run_list take_of tables d l base) is ∙ deeper take_of (depth - 17) l base

    pub flow_as_deep : (class : Class) (depth l base : ℕ) → 17 ≤ depth → flow_of_list class tests tables depth l base ≡ flow_of_list class tests tables 17 l base
    flow_as_deep class depth l base h =
        let may = λ (test : ℕ). may_take (judged class tests test) in
        let must = λ (test : ℕ). must_take (judged class tests test) in
        ap (λ (r : Reached). let x : Flow = record { may = r; must = run_list must tables depth l base } in x) (as_deep may depth l base h)
        ∙ ap (λ (r : Reached). let x : Flow = record { may = run_list may tables 17 l base; must = r } in x) (as_deep must depth l base h)

    -- ---- what is known

    pub known_by_rows : (classes : List Class) (known : List (List Flow)) (column : ℕ) (class : Class) → AreKnownRows tests tables classes known → slice_get classes column ≡ Some class
        → AreKnown class tests tables known column
    known_by_rows classes known column class rows of_column l depth base h = by_row (slice_get known l) refl
      where
        by_flow : (row : List Flow) → slice_get known l ≡ Some row → (found : Option Flow) → slice_get row column ≡ found
            → IfSome found (λ flow. flow_of_list class tests tables depth l base ≡ flow_turned flow base)
        by_flow row at None e = tt
        by_flow row at (Some flow) e =
            flow_as_deep class depth l base h ∙ list_is_turned class tests tables 17 l base
            ∙ ap (λ x. flow_turned x base) (sym (rows l row at column flow class e of_column))

        by_row : (row : Option (List Flow)) → slice_get known l ≡ row → IfSome (known_in row column) (λ flow. flow_of_list class tests tables depth l base ≡ flow_turned flow base)
        by_row None e = tt
        by_row (Some row) e = by_flow row e (slice_get row column) refl

    -- ---- heads

    statements_as_deep : (take_of : ℕ → Reached → Reached → Reached) (statements : List Statement) (base : ℕ) → list_any (is_deeper (lines_of_tables tests tables) 15) (called statements) ≡ false
        → run_statements take_of tables 17 statements base ≡ run_statements take_of tables 16 statements base
    statements_as_deep take_of statements base h =
        same_run take_of (run_list take_of tables 17) (run_list take_of tables 16) (is_deeper (lines_of_tables tests tables) 15)
        (λ callee b e. settled take_of 15 callee b e) (length statements) statements base h

    pub head_as_deep : (judge : ℕ → Verdict) (l : ℕ) (head : Head) → IsHeadAt 17 judge tables (table_at tables l) head → IsHead judge tables (table_at tables l) head
    head_as_deep judge l head is met of_judge =
        let table = table_at tables l in
        let take_of = λ (test : ℕ). take_met (met test) in
        let none = flat (is_deeper (lines_of_tables tests tables) 15) l (are.not_deeper l) in
        sym (statements_as_deep take_of table 0 none) ∙ is met of_judge
        ∙ ap (followed_by (executes head.executed))
        (statements_as_deep take_of (drop head.size table) 0 (none_behind (is_deeper (lines_of_tables tests tables) 15) head.size 0 table none))

-- nothing is known at first
pub none_known : (class : Class) (tests : List (Formula Test)) (tables : List (List Statement)) (column : ℕ) → AreKnown class tests tables [] column
none_known class tests tables column l depth base h = tt
