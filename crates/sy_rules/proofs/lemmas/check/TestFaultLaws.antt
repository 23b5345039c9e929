-- Which faults the tests of a script have: each of the list of faults, and none where that is empty.
use Rattle.std.proofs.Common.{◌≡◌, List, [], ◌∷◌, Some, map, refl, arith}
use Rattle.std.specs.List.{Contains}
use Rattle.std.proofs.lemmas.Option.{same_Some}
use Rattle.sy_script.specs.declared.tree.ExprTree.{ExprTree}
use Rattle.sy_select.specs.declared.fault.SelectFault.{SelectFault}
use Rattle.sy_select.specs.Trees.{tree_faults}
use Rattle.sy_rules.specs.declared.items.fault.ItemFault.{ItemFault}
use Rattle.sy_rules.specs.Faults.{first}
use Rattle.sy_rules.specs.check.ScriptFaults.{as_item_fault}
use Rattle.sy_rules.proofs.lemmas.check.AmongLaws.{contained, here}

first_there : (gs : List SelectFault) (f : ItemFault) → first (map as_item_fault gs) ≡ Some f → (g : SelectFault) × Contains gs g × (as_item_fault g ≡ f)
first_there [] f e = absurd cc
first_there (g ∷ gs) f e = (g, contained g (g ∷ gs) (here g gs), same_Some (as_item_fault g) f e)

pub tree_there : (tree : ExprTree) (f : ItemFault) → first (map as_item_fault (tree_faults tree)) ≡ Some f → (g : SelectFault) × Contains (tree_faults tree) g × (as_item_fault g ≡ f)
tree_there tree f e = first_there (tree_faults tree) f e

pub none_of_map : {A B : Type 0} (h : A → B) (xs : List A) → map h xs ≡ [] → xs ≡ []
none_of_map h [] e = refl
none_of_map h (x ∷ xs) e = cc

pub tree_clean : (tree : ExprTree) → map as_item_fault (tree_faults tree) ≡ [] → tree_faults tree ≡ []
tree_clean tree e = none_of_map as_item_fault (tree_faults tree) e

none_in : (gs : List SelectFault) (g : SelectFault) → Contains gs g → gs ≡ [] → ⊥
none_in [] g c e = absurd (omega (arith, c.1))
none_in (h ∷ gs) g c e = cc

pub tree_refuted : (tree : ExprTree) (f : SelectFault) → Contains (tree_faults tree) f → map as_item_fault (tree_faults tree) ≡ [] → ⊥
tree_refuted tree f among e = none_in (tree_faults tree) f among (tree_clean tree e)
