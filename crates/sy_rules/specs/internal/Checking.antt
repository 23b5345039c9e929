-- What the parts of the check of a script say: faults that are found, and none.
use Rattle.std.specs.Prelude.{◌≡◌, ◌⊎◌, List, [], Some, ◌∷◌, ◌++◌, ◌+◌}
use Rattle.sy_script.specs.declared.tree.ExprTree.{ExprTree}
use Rattle.sy_select.specs.declared.fault.SelectFault.{SelectFault}
use Rattle.sy_select.specs.Trees.{tree_faults}
use Rattle.sy_rules.specs.declared.fault.FaultCode.TheVariants as code
use Rattle.sy_rules.specs.declared.items.fault.ItemFault.{ItemFault}
use Rattle.sy_rules.specs.Faults.{nowhere, fault_of_part, first}
use Rattle.sy_rules.specs.items.Outline.{Item}
use Rattle.sy_rules.specs.items.ItemFaults.{object_faults}
use Rattle.sy_rules.specs.check.ScriptFaults.{faults_among}

abbrev pub memory_fault : ItemFault
memory_fault = fault_of_part nowhere code.NoMemory []

-- the same of an item
abbrev pub IsFound : List ItemFault → ItemFault → Type 0
IsFound faults answer = (answer ≡ memory_fault) ⊎ (first faults ≡ Some answer)

abbrev pub faults_of_trees : List ExprTree → List SelectFault
faults_of_trees [] = []
faults_of_trees (t ∷ trees) = tree_faults t ++ faults_of_trees trees

-- nothing is wrong with any object by itself
abbrev pub AreClean : List Item → Type 0
AreClean [] = Unit {0}
AreClean (x ∷ items) = (object_faults x ≡ []) × AreClean items

-- those of the items after others: each item's own, then those among the others
abbrev pub faults_after : List Item → List Item → List Item → List ItemFault
faults_after all before [] = []
faults_after all before (x ∷ later) = object_faults x ++ (faults_among all before x ++ faults_after all (before ++ x ∷ []) later)
