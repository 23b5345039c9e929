-- The expression that a tree of a script is, and the faults of one that is none, in the order of the text.
use Rattle.std.specs.Prelude.{◌≡◌, ℕ, List, [], ◌∷◌, ◌++◌, Option, Some, None}
use Rattle.sy_script.specs.declared.tree.Comparison.{Comparison}
use Rattle.sy_script.specs.declared.tree.ExprTree.{ExprTree}
use Rattle.sy_script.specs.declared.tree.Text.{Text}
use Rattle.sy_script.specs.declared.tree.ExprTree.TheOpen.{ExprTree-F}
use Rattle.sy_script.specs.declared.tree.ExprTree.TheFolds.{fold-ExprTree}
use Rattle.sy_select.specs.declared.condition.ClassTest.TheVariants as decided
use Rattle.sy_select.specs.declared.condition.Test.{Test}
use Rattle.sy_select.specs.declared.condition.Test.TheVariants as test
use Rattle.sy_select.specs.declared.fault.FaultCode.TheVariants as code
use Rattle.sy_select.specs.declared.fault.SelectFault.{SelectFault}
use Rattle.sy_select.specs.declared.property.Property.{Property}
use Rattle.sy_select.specs.Faults.{faults_at}
use Rattle.sy_select.specs.Selectors.{IsSetOf}
use Rattle.sy_select.specs.Properties.{property_of, test_of, comparison_test}
use Rattle.sy_select.specs.Truth.{Formula, any, all}

-- a test as it is written: a comparison, or the selector of a `prifilt`
pub data Written : Type 0 where
  compared : Comparison → Written
  selected : Text → Written

abbrev pub written_step : ExprTree-F (Formula Written) → Formula Written
written_step (ExprTree-F.Or xs) = any xs
written_step (ExprTree-F.And xs) = all xs
written_step (ExprTree-F.Not x) = Formula.Not x
written_step (ExprTree-F.Group x) = x
written_step (ExprTree-F.Prifilt text) = Formula.Test (Written.selected text)
written_step (ExprTree-F.Compare c) = Formula.Test (Written.compared c)

-- the tree over the tests that it is written of, without its parentheses
abbrev pub written : ExprTree → Formula Written
written = fold-ExprTree (Formula Written) written_step

-- ---- faults

abbrev pub operator_faults : Comparison → Option Test → List SelectFault
operator_faults c None = record { code = code.Operator; word = c.spelling.text; span = c.spelling.span } ∷ []
operator_faults c (Some t) = []

abbrev pub property_faults : Comparison → Option Property → List SelectFault
property_faults c None = record { code = code.Unknown; word = c.property.text; span = c.property.span } ∷ []
property_faults c (Some p) = operator_faults c (test_of p c)

-- a property that isn't known, at its place, or one with which the operator or the operand doesn't go, at the operator's
abbrev pub comparison_faults : Comparison → List SelectFault
comparison_faults c = property_faults c (property_of c.property.text)

abbrev pub test_faults : Written → List SelectFault
test_faults (Written.compared c) = comparison_faults c
test_faults (Written.selected text) = faults_at text.span text.bytes

-- all faults, from left to right
abbrev pub all_faults : Formula Written → List SelectFault
all_faults (Formula.Test t) = test_faults t
all_faults (Formula.Not x) = all_faults x
all_faults (Formula.Or x y) = all_faults x ++ all_faults y
all_faults (Formula.And x y) = all_faults x ++ all_faults y
all_faults Formula.Never = []
all_faults Formula.Always = []

abbrev pub tree_faults : ExprTree → List SelectFault
tree_faults x = all_faults (written x)

-- ---- what is read

-- the set of the selector
abbrev pub Selects : List ℕ → Test → Type 0
Selects text (test.Class (decided.Selected set)) = IsSetOf text set
Selects text _ = ⊥

abbrev pub IsTest : Written → Test → Type 0
IsTest (Written.compared c) t = comparison_test c ≡ Some t
IsTest (Written.selected text) t = Selects text.bytes t

-- the same tree over the tests that are meant
abbrev pub Means : Formula Written → Formula Test → Type 0
Means (Formula.Test w) (Formula.Test t) = IsTest w t
Means (Formula.Not x) (Formula.Not y) = Means x y
Means (Formula.Or x y) (Formula.Or u v) = Means x u × Means y v
Means (Formula.And x y) (Formula.And u v) = Means x u × Means y v
Means Formula.Never Formula.Never = Unit {0}
Means Formula.Always Formula.Always = Unit {0}
Means _ _ = ⊥

abbrev pub IsExpr : ExprTree → Formula Test → Type 0
IsExpr tree x = Means (written tree) x
