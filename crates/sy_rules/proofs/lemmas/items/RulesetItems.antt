-- A file has as many lists of rulesets as its items have rulesets.
use Rattle.std.proofs.Common.{◌≡◌, ℕ, ◌+◌, List, [], ◌∷◌, length, refl, ◌∙◌, arith}
use Rattle.sy_script.specs.declared.tree.Top.{Top}
use Rattle.sy_rules.specs.lists.Lines.{File, inside}
use Rattle.sy_rules.specs.items.Outline.{items_of_tops}
use Rattle.sy_rules.specs.items.PartItems.{rulesets_in}
use Rattle.sy_rules.specs.parts.Plans.{rulesets_of}
use Rattle.sy_rules.specs.lists.Texts as text
use Rattle.sy_rules.specs.lists.Texts.{Part, parts}
use Rattle.sy_rules.proofs.lemmas.items.TestLaws.{rulesets_of_tops}

one_list_each : (file : File) (a t : ℕ) (ps : List Part) → length (inside file a t ps) ≡ rulesets_in ps
one_list_each file a t [] = refl
one_list_each file a t (Part.Inside x ∷ later) = omega (arith, one_list_each file (a + length (text.actions x)) (t + length (text.tests x)) later)
one_list_each file a t (Part.Outside x ∷ later) = one_list_each file (a + length (text.actions x)) (t + length (text.tests x)) later

pub as_many_rulesets : (file : File) (a t : ℕ) (tops : List Top) → length (inside file a t (parts tops)) ≡ length (rulesets_of (items_of_tops tops))
as_many_rulesets file a t tops = one_list_each file a t (parts tops) ∙ rulesets_of_tops tops
