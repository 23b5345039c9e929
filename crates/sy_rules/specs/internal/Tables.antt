-- The lines that a table of statements stands for, and the numbers that its occurrences have there.
use Rattle.std.specs.Prelude.{◌≡◌, ℕ, zero, suc, ◌+◌, ◌≤◌, false, map, List, [], ◌∷◌, length, take, drop, slice_get, unwrap_or}
use Rattle.sy_select.specs.declared.condition.Test.{Test}
use Rattle.sy_select.specs.Truth.{Formula}
use Rattle.sy_rules.specs.Limits.{CALL_DEPTH, OCCURRENCES, STATEMENTS}
use Rattle.sy_rules.specs.declared.lists.statement.Statement.{Statement}
use Rattle.sy_rules.specs.declared.lists.statement.Statement.TheVariants as statement
use Rattle.sy_rules.specs.lists.Lines.{Lines, is_deeper, statements_of, body_of}
use Rattle.sy_rules.specs.lists.Body.{count}

abbrev pub test_of : List (Formula Test) → ℕ → Formula Test
test_of tests number = unwrap_or (slice_get tests number) Formula.Never

-- the lines of a table of at most so many statements
abbrev pub lines_within : List (Formula Test) → ℕ → List Statement → Lines
lines_within tests zero statements = Lines.End
lines_within tests (suc most) [] = Lines.End
lines_within tests (suc most) (statement.Run action number ∷ rest) = Lines.Run action (lines_within tests most rest)
lines_within tests (suc most) (statement.Post list number ∷ rest) = Lines.Post list (lines_within tests most rest)
lines_within tests (suc most) (statement.Call list number ∷ rest) = Lines.Call list (lines_within tests most rest)
lines_within tests (suc most) (statement.Stop ∷ rest) = Lines.Stop (lines_within tests most rest)
lines_within tests (suc most) (statement.If test done otherwise ∷ rest) =
    Lines.If (test_of tests test)
    (lines_within tests most (take done rest))
    (lines_within tests most (take otherwise (drop done rest)))
    (lines_within tests most (drop otherwise (drop done rest)))

abbrev pub lines_of_table : List (Formula Test) → List Statement → Lines
lines_of_table tests statements = lines_within tests (length statements) statements

-- The occurrences of a table are numbered from this number on in the order of the text, those of a called list in its place.
abbrev pub AreNumbered : (ℕ → ℕ) → ℕ → List Statement → Type 0
AreNumbered count number [] = Unit {0}
AreNumbered count number (statement.Run action n ∷ rest) = (n ≡ number) × AreNumbered count (number + 1) rest
AreNumbered count number (statement.Post list n ∷ rest) = (n ≡ number) × AreNumbered count (number + 1) rest
AreNumbered count number (statement.Call list n ∷ rest) = (n ≡ number) × AreNumbered count (number + count list) rest
AreNumbered count number (statement.Stop ∷ rest) = AreNumbered count number rest
AreNumbered count number (statement.If test done otherwise ∷ rest) = AreNumbered count number rest

-- ---- the tables of a plan

abbrev pub lines_of_tables : List (Formula Test) → List (List Statement) → List Lines
lines_of_tables tests tables = map (lines_of_table tests) tables

abbrev pub table_at : List (List Statement) → ℕ → List Statement
table_at tables list = unwrap_or (slice_get tables list) []

-- how many occurrences a list has
abbrev pub count_of : List Lines → ℕ → ℕ
count_of lists list = count (body_of lists list)

-- The tables of lists whose calls lie in one another no deeper than they may, which have no more statements and occurrences than they may, and whose occurrences
-- are numbered.
pub record AreTables (tests : List (Formula Test)) (tables : List (List Statement)) : Type 0 where
  pub not_deeper : (list : ℕ) → is_deeper (lines_of_tables tests tables) CALL_DEPTH list ≡ false
  pub small : (list : ℕ) → statements_of (lines_of_tables tests tables) list ≤ STATEMENTS
  pub few : (list : ℕ) → count_of (lines_of_tables tests tables) list ≤ OCCURRENCES
  pub numbered : (list : ℕ) → AreNumbered (count_of (lines_of_tables tests tables)) 0 (table_at tables list)
