-- The walks that the code makes over tables, for its private functions.
use Rattle.std.specs.Prelude.{ℕ, zero, suc, ◌+◌, ◌%◌, ◌^◌, bit_or, Bool, true, false, if◌then◌else◌, List, [], ◌∷◌, length, take, drop}
use Rattle.sy_select.specs.declared.condition.Test.{Test}
use Rattle.sy_select.specs.Truth.{Formula}
use Rattle.sy_select.specs.internal.Walk.{holds}
use Rattle.sy_rules.specs.declared.lists.statement.Statement.{Statement}
use Rattle.sy_rules.specs.declared.lists.statement.Statement.TheVariants as statement
use Rattle.sy_rules.specs.declared.lists.walk.Reached.{Reached}
use Rattle.sy_rules.specs.internal.Tables.{test_of, table_at}

abbrev pub nothing : Reached
nothing = record { set = 0; goes_on = true }

abbrev pub one : ℕ → Reached
one at = record { set = 2 ^ (at % 64); goes_on = true }

abbrev pub stopped : Reached
stopped = record { set = 0; goes_on = false }

-- a part, and what follows it
abbrev pub followed_by : Reached → Reached → Reached
followed_by first next = if first.goes_on then record { set = bit_or first.set next.set; goes_on = next.goes_on } else first

-- the number that an occurrence has where its list is called after so many
abbrev pub place : ℕ → ℕ → ℕ
place base number = (base + number) % 2 ^ 32

-- A table of at most so many statements, by what its tests take of two blocks and what a called list does: its number, and where its occurrences
-- begin.
abbrev pub run : (ℕ → Reached → Reached → Reached) → (ℕ → ℕ → Reached) → ℕ → List Statement → ℕ → Reached
run take_of called zero statements base = nothing
run take_of called (suc most) [] base = nothing
run take_of called (suc most) (statement.Run action number ∷ rest) base = followed_by (one (place base number)) (run take_of called most rest base)
run take_of called (suc most) (statement.Post list number ∷ rest) base = followed_by (one (place base number)) (run take_of called most rest base)
run take_of called (suc most) (statement.Call list number ∷ rest) base =
    followed_by (called list (place base number)) (run take_of called most rest base)
run take_of called (suc most) (statement.Stop ∷ rest) base = stopped
run take_of called (suc most) (statement.If test done otherwise ∷ rest) base =
    followed_by
    (take_of test (run take_of called most (take done rest) base) (run take_of called most (take otherwise (drop done rest)) base))
    (run take_of called most (drop otherwise (drop done rest)) base)

-- what a list does where lists may lie in one another at most so deep, this one too
abbrev pub run_list : (ℕ → Reached → Reached → Reached) → List (List Statement) → ℕ → ℕ → ℕ → Reached
run_list take_of tables zero list base = nothing
run_list take_of tables (suc depth) list base =
    run take_of (run_list take_of tables depth) (length (table_at tables list)) (table_at tables list) base

-- a table by itself
abbrev pub run_statements : (ℕ → Reached → Reached → Reached) → List (List Statement) → ℕ → List Statement → ℕ → Reached
run_statements take_of tables depth statements base = run take_of (run_list take_of tables depth) (length statements) statements base

-- ---- the work of a message

-- which tests hold, by their numbers
abbrev pub meets : (Test → Bool) → List (Formula Test) → ℕ → Bool
meets says tests number = holds says (test_of tests number)

abbrev pub take_met : Bool → Reached → Reached → Reached
take_met met a b = if met then a else b

abbrev pub work_of_list : (Test → Bool) → List (Formula Test) → List (List Statement) → ℕ → ℕ → ℕ → Reached
work_of_list says tests tables = run_list (λ test. take_met (meets says tests test)) tables

abbrev pub work_of_statements : (Test → Bool) → List (Formula Test) → List (List Statement) → ℕ → List Statement → ℕ → Reached
work_of_statements says tests tables = run_statements (λ test. take_met (meets says tests test)) tables
