-- The parts of a file have as many actions as its items.
use Rattle.std.proofs.Common.{◌≡◌, ℕ, suc, ◌+◌, List, [], ◌∷◌, length, refl, ap, ◌∙◌, arith}
use Rattle.std.proofs.lemmas.List.{length-append}
use Rattle.sy_script.specs.declared.tree.ObjectKind.TheVariants as object
use Rattle.sy_script.specs.declared.tree.Top.{Top}
use Rattle.sy_rules.specs.internal.Texts.{text_of}
use Rattle.sy_rules.specs.items.Outline.{Item, items_of_tops}
use Rattle.sy_rules.specs.items.PartItems.{actions_of_parts, params_of}
use Rattle.sy_rules.specs.parts.Plans.{actions_of}
use Rattle.sy_rules.specs.lists.Texts as text
use Rattle.sy_rules.specs.lists.Texts.{Part, parts}
use Rattle.sy_rules.proofs.lemmas.items.TestLaws.{actions_of_tops}

abbrev pub actions_in : List Part → ℕ
actions_in [] = 0
actions_in (part ∷ later) = length (text.actions (text_of part)) + actions_in later

as_many_in_parts : (ps : List Part) → actions_in ps ≡ length (actions_of_parts ps)
as_many_in_parts [] = refl
as_many_in_parts (Part.Inside x ∷ later) = omega (arith, as_many_in_parts later, length-append (text.actions x) (actions_of_parts later))
as_many_in_parts (Part.Outside x ∷ later) = omega (arith, as_many_in_parts later, length-append (text.actions x) (actions_of_parts later))

as_many_params : (items : List Item) → length (params_of items) ≡ length (actions_of items)
as_many_params [] = refl
as_many_params (Item.Action ps ∷ items) = ap suc (as_many_params items)
as_many_params (Item.Ruleset ps ∷ items) = as_many_params items
as_many_params (Item.Call name ∷ items) = as_many_params items
as_many_params (Item.Test test ∷ items) = as_many_params items
as_many_params (Item.Object object.Input ps ∷ items) = as_many_params items
as_many_params (Item.Object object.MainQueue ps ∷ items) = as_many_params items
as_many_params (Item.Object object.Module ps ∷ items) = as_many_params items
as_many_params (Item.Object object.Global ps ∷ items) = as_many_params items

pub as_many_actions : (tops : List Top) → actions_in (parts tops) ≡ length (actions_of (items_of_tops tops))
as_many_actions tops = as_many_in_parts (parts tops) ∙ (ap length (actions_of_tops tops) ∙ as_many_params (items_of_tops tops))
