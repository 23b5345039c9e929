-- What each class executes of a list, as the code keeps it: the two sets, and what the class alone decides at the beginning of the table.
use Rattle.std.specs.Prelude.{◌≡◌, ℕ, ◌+◌, ◌*◌, ◌-◌, Bool, true, false, List, Option, Some, None, IfSome, drop, length, slice_get, get_or}
use Rattle.sy_wire.specs.declared.class.Class.{Class}
use Rattle.sy_select.specs.declared.condition.Test.{Test}
use Rattle.sy_select.specs.declared.verdict.Verdict.{Verdict}
use Rattle.sy_select.specs.declared.verdict.Verdict.TheVariants.{Yes, No, Either}
use Rattle.sy_select.specs.Truth.{Formula}
use Rattle.sy_rules.specs.Limits.{CALL_DEPTH}
use Rattle.sy_rules.specs.declared.lists.class_flows.ClassFlow.{ClassFlow}
use Rattle.sy_rules.specs.declared.lists.class_flows.ClassFlows.{ClassFlows}
use Rattle.sy_rules.specs.declared.lists.columns.Columns.{Columns}
use Rattle.sy_rules.specs.declared.lists.decided.Head.{Head}
use Rattle.sy_rules.specs.declared.lists.statement.Statement.{Statement}
use Rattle.sy_rules.specs.declared.lists.walk.Reached.{Reached}
use Rattle.sy_rules.specs.internal.FlowWalk.{judged, may_take, must_take}
use Rattle.sy_rules.specs.internal.TableWalk.{followed_by, run_list, run_statements, take_met}
use Rattle.sy_rules.specs.internal.Tables.{table_at}

-- ---- classes in columns

-- every test says the same of both
abbrev pub AreAlike : List (Formula Test) → Class → Class → Type 0
AreAlike tests one other = (test : ℕ) → judged one tests test ≡ judged other tests test

-- there is a class at this place, and it is like this one
pub record HasAlike (tests : List (Formula Test)) (classes : List Class) (column : ℕ) (class : Class) : Type 0 where
  pub one : Class
  pub there : slice_get classes column ≡ Some one
  pub alike : AreAlike tests one class

abbrev pub number_of : Class → ℕ
number_of class = 8 * class.facility + class.severity

abbrev pub column_in : List ℕ → Class → ℕ
column_in of_class class = get_or of_class (number_of class) 0

abbrev pub AreColumns : List (Formula Test) → Columns → Type 0
AreColumns tests c = (class : Class) → HasAlike tests c.classes.items (column_in c.of_class class) class

-- ---- what a class decides

-- a test's outcome goes with its verdict
abbrev pub IsMet : Verdict → Bool → Type 0
IsMet Yes met = met ≡ true
IsMet No met = met ≡ false
IsMet Either met = Unit {0}

-- the outcomes of all tests, by their numbers, go with what a class says of them
abbrev pub AreMet : (ℕ → Verdict) → (ℕ → Bool) → Type 0
AreMet judge met = (test : ℕ) → IsMet (judge test) (met test)

-- what is executed where the tests have these outcomes
abbrev pub met_list : (ℕ → Bool) → List (List Statement) → ℕ → ℕ → ℕ → Reached
met_list met = run_list (λ test. take_met (met test))

abbrev pub met_statements : (ℕ → Bool) → List (List Statement) → ℕ → List Statement → ℕ → Reached
met_statements met = run_statements (λ test. take_met (met test))

-- these occurrences, and what follows
abbrev pub executes : ℕ → Reached
executes set = record { set = set; goes_on = true }

-- Whatever the tests say that the judge leaves open, the first statements of a table execute these occurrences, and then the others follow.
abbrev pub IsHeadAt : ℕ → (ℕ → Verdict) → List (List Statement) → List Statement → Head → Type 0
IsHeadAt depth judge tables table head = (met : ℕ → Bool) → AreMet judge met
    → met_statements met tables depth table 0 ≡ followed_by (executes head.executed) (met_statements met tables depth (drop head.size table) 0)

-- where lists may lie in one another as deep as in a plan
abbrev pub IsHead : (ℕ → Verdict) → List (List Statement) → List Statement → Head → Type 0
IsHead judge tables table head = IsHeadAt CALL_DEPTH judge tables table head

-- the later statements of a table
abbrev pub IsTail : List Statement → List Statement → Type 0
IsTail later all = later ≡ drop (length all - length later) all

-- ---- the flows

pub record IsFlow (judge : ℕ → Verdict) (tables : List (List Statement)) (list : ℕ) (flow : ClassFlow) : Type 0 where
  pub may : flow.may ≡ (run_list (λ test. may_take (judge test)) tables (CALL_DEPTH + 1) list 0).set
  pub must : flow.must ≡ (run_list (λ test. must_take (judge test)) tables (CALL_DEPTH + 1) list 0).set
  pub head : IsHead judge tables (table_at tables list) flow.head

abbrev pub in_row : Option (List ClassFlow) → ℕ → Option ClassFlow
in_row None column = None
in_row (Some row) column = slice_get row column

-- what is kept for a list and a class, where something is
abbrev pub flow_at : ClassFlows → ℕ → Class → Option ClassFlow
flow_at flows list class = in_row (slice_get flows.rows.items list) (column_in flows.columns.of_class class)

-- what is kept for a list and a class is what the class executes of it
abbrev pub AreFlows : List (Formula Test) → List (List Statement) → ClassFlows → Type 0
AreFlows tests tables flows = (list : ℕ) (class : Class) → IfSome (flow_at flows list class) (IsFlow (judged class tests) tables list)

-- the flows of one list, of each column
abbrev pub IsRow : List (Formula Test) → List (List Statement) → ℕ → List Class → List ClassFlow → Type 0
IsRow tests tables list classes row = (column : ℕ) (flow : ClassFlow) (one : Class) → slice_get row column ≡ Some flow → slice_get classes column ≡ Some one
    → IsFlow (judged one tests) tables list flow

-- each list that has a row has its own
abbrev pub AreRows : List (Formula Test) → List (List Statement) → List Class → List (List ClassFlow) → Type 0
AreRows tests tables classes rows = (list : ℕ) (row : List ClassFlow) → slice_get rows list ≡ Some row → IsRow tests tables list classes row
