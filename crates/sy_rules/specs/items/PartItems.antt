-- What stands in the statements of a file: by the texts of its parts, and by its items.
use Rattle.std.specs.Prelude.{ℕ, ◌+◌, List, [], ◌∷◌, ◌++◌, Option, Some, None}
use Rattle.std.specs.List.{filter_map}
use Rattle.sy_script.specs.declared.tree.ExprTree.{ExprTree}
use Rattle.sy_script.specs.declared.tree.Param.{Param}
use Rattle.sy_rules.specs.items.Outline.{Item}
use Rattle.sy_rules.specs.lists.Texts.{Part, Text, actions, tests}

-- ---- by the texts, in the order of the parts

-- the names of the rulesets that a text calls
abbrev pub calls : Text → List (List ℕ)
calls Text.End = []
calls (Text.Action params rest) = calls rest
calls (Text.Call name rest) = name ∷ calls rest
calls (Text.Stop rest) = calls rest
calls (Text.If test done otherwise rest) = calls done ++ (calls otherwise ++ calls rest)

abbrev pub tests_of_parts : List Part → List ExprTree
tests_of_parts [] = []
tests_of_parts (Part.Inside x ∷ later) = tests x ++ tests_of_parts later
tests_of_parts (Part.Outside x ∷ later) = tests x ++ tests_of_parts later

abbrev pub actions_of_parts : List Part → List (List Param)
actions_of_parts [] = []
actions_of_parts (Part.Inside x ∷ later) = actions x ++ actions_of_parts later
actions_of_parts (Part.Outside x ∷ later) = actions x ++ actions_of_parts later

abbrev pub calls_of_parts : List Part → List (List ℕ)
calls_of_parts [] = []
calls_of_parts (Part.Inside x ∷ later) = calls x ++ calls_of_parts later
calls_of_parts (Part.Outside x ∷ later) = calls x ++ calls_of_parts later

-- the parts of rulesets
abbrev pub rulesets_in : List Part → ℕ
rulesets_in [] = 0
rulesets_in (Part.Inside x ∷ later) = 1 + rulesets_in later
rulesets_in (Part.Outside x ∷ later) = rulesets_in later

-- ---- by the items, in the order of the text

abbrev pub params_of_item : Item → Option (List Param)
params_of_item (Item.Action params) = Some params
params_of_item _ = None

-- the parameters of the actions
abbrev pub params_of : List Item → List (List Param)
params_of items = filter_map params_of_item items

abbrev pub name_of_call : Item → Option (List ℕ)
name_of_call (Item.Call name) = Some name
name_of_call _ = None

-- the names of the rulesets that are called
abbrev pub names_of_calls : List Item → List (List ℕ)
names_of_calls items = filter_map name_of_call items
