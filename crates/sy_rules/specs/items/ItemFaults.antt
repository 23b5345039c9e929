-- What is wrong with the objects of a script by themselves, in the order of the text.
use Rattle.std.specs.Prelude.{List, []}
use Rattle.sy_script.specs.declared.tree.ObjectKind.{ObjectKind}
use Rattle.sy_script.specs.declared.tree.ObjectKind.TheVariants as object
use Rattle.sy_rules.specs.declared.items.fault.ItemFault.{ItemFault}
use Rattle.sy_rules.specs.declared.parameters.kind.Kind.{Kind}
use Rattle.sy_rules.specs.declared.parameters.kind.Kind.TheVariants as kind
use Rattle.sy_rules.specs.parameters.Objects.{kind_of_action}
use Rattle.sy_rules.specs.items.Outline.{Item}
use Rattle.sy_rules.specs.parameters.Values.{faults}

abbrev pub kind_of_object : ObjectKind → Kind
kind_of_object object.Module = kind.Module
kind_of_object object.Global = kind.Global
kind_of_object object.MainQueue = kind.MainQueue
kind_of_object object.Input = kind.Input

-- the faults of an item's parameters
abbrev pub object_faults : Item → List ItemFault
object_faults (Item.Object found ps) = faults (kind_of_object found) ps
object_faults (Item.Ruleset ps) = faults kind.Ruleset ps
object_faults (Item.Action ps) = faults (kind_of_action ps) ps
object_faults (Item.Call name) = []
object_faults (Item.Test test) = []
