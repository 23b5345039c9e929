-- The walk by verdicts that the code makes over tables, for its private functions.
use Rattle.std.specs.Prelude.{◌≡◌, ◌≤◌, ℕ, bit_or, ◌||◌, ◌&&◌, List, Option, Some, None, IfSome, slice_get}
use Rattle.std.specs.Int.{w64, rotate_left}
use Rattle.sy_wire.specs.declared.class.Class.{Class}
use Rattle.sy_select.specs.declared.condition.Test.{Test}
use Rattle.sy_select.specs.declared.verdict.Verdict.{Verdict}
use Rattle.sy_select.specs.declared.verdict.Verdict.TheVariants.{Yes, No, Either}
use Rattle.sy_select.specs.Properties.{known}
use Rattle.sy_select.specs.Truth.{Formula}
use Rattle.sy_select.specs.internal.Walk.{verdict}
use Rattle.sy_rules.specs.declared.lists.statement.Statement.{Statement}
use Rattle.sy_rules.specs.declared.lists.walk.Reached.{Reached}
use Rattle.sy_rules.specs.declared.lists.flow.Flow.{Flow}
use Rattle.sy_rules.specs.internal.TableWalk.{followed_by, run_list, run_statements}
use Rattle.sy_rules.specs.internal.Tables.{test_of}

-- of two blocks
abbrev pub may_take : Verdict → Reached → Reached → Reached
may_take Yes a b = a
may_take No a b = b
may_take Either a b = record { set = bit_or a.set b.set; goes_on = a.goes_on || b.goes_on }

abbrev pub must_take : Verdict → Reached → Reached → Reached
must_take Yes a b = a
must_take No a b = b
must_take Either a b = record { set = 0; goes_on = a.goes_on && b.goes_on }

-- ---- may and must at once

-- the verdict of a class on each test, by its number
abbrev pub judged : Class → List (Formula Test) → ℕ → Verdict
judged class tests number = verdict (known class) (test_of tests number)

abbrev pub flow_of_list : Class → List (Formula Test) → List (List Statement) → ℕ → ℕ → ℕ → Flow
flow_of_list class tests tables depth list base = record {
  may = run_list (λ test. may_take (judged class tests test)) tables depth list base;
  must = run_list (λ test. must_take (judged class tests test)) tables depth list base;
}

abbrev pub flow_of_statements : Class → List (Formula Test) → List (List Statement) → ℕ → List Statement → ℕ → Flow
flow_of_statements class tests tables depth statements base = record {
  may = run_statements (λ test. may_take (judged class tests test)) tables depth statements base;
  must = run_statements (λ test. must_take (judged class tests test)) tables depth statements base;
}

abbrev pub both : Reached → Flow
both r = record { may = r; must = r }

abbrev pub flow_followed_by : Flow → Flow → Flow
flow_followed_by first next = record { may = followed_by first.may next.may; must = followed_by first.must next.must }

abbrev pub flow_take : Verdict → Flow → Flow → Flow
flow_take v a b = record { may = may_take v a.may b.may; must = must_take v a.must b.must }

-- ---- lists whose flows are known

-- a part whose occurrences have numbers larger by so much
abbrev pub turned : Reached → ℕ → Reached
turned r base = record { set = rotate_left w64 r.set base; goes_on = r.goes_on }

abbrev pub flow_turned : Flow → ℕ → Flow
flow_turned flow base = record { may = turned flow.may base; must = turned flow.must base }

abbrev pub known_in : Option (List Flow) → ℕ → Option Flow
known_in None column = None
known_in (Some row) column = slice_get row column

-- what is known of a list, in a column of classes
abbrev pub known_flow : List (List Flow) → ℕ → ℕ → Option Flow
known_flow known list column = known_in (slice_get known list) column

-- What is known of a list is what it does, wherever it is called, where lists may lie in one another as deep as in a plan or deeper.
abbrev pub AreKnown : Class → List (Formula Test) → List (List Statement) → List (List Flow) → ℕ → Type 0
AreKnown class tests tables known column = (list depth base : ℕ) → 17 ≤ depth
    → IfSome (known_flow known list column) (λ flow. flow_of_list class tests tables depth list base ≡ flow_turned flow base)

-- what a list does, of each column
abbrev pub IsKnownRow : List (Formula Test) → List (List Statement) → List Class → ℕ → List Flow → Type 0
IsKnownRow tests tables classes list row = (column : ℕ) (flow : Flow) (one : Class) → slice_get row column ≡ Some flow → slice_get classes column ≡ Some one
    → flow ≡ flow_of_list one tests tables 17 list 0

abbrev pub AreKnownRows : List (Formula Test) → List (List Statement) → List Class → List (List Flow) → Type 0
AreKnownRows tests tables classes known = (list : ℕ) (row : List Flow) → slice_get known list ≡ Some row → IsKnownRow tests tables classes list row
