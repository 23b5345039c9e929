-- The code's items, which borrow from the script, as items.
use Rattle.sy_script.specs.declared.tree.Span.{Span}
use Rattle.sy_rules.specs.declared.items.outline.Item.{Item}
use Rattle.sy_rules.specs.declared.items.outline.Item.TheVariants as code
use Rattle.sy_rules.specs.Faults.{nowhere}
use Rattle.sy_rules.specs.items.Outline as spec

abbrev pub item : Item → spec.Item
item (code.Object span kind params) = spec.Item.Object kind params.now
item (code.Ruleset span params) = spec.Item.Ruleset params.now
item (code.Action span params) = spec.Item.Action params.now
item (code.Call span name) = spec.Item.Call name.now
item (code.Test test) = spec.Item.Test test.now

abbrev pub span : Item → Span
span (code.Object here kind params) = here
span (code.Ruleset here params) = here
span (code.Action here params) = here
span (code.Call here name) = here
span (code.Test test) = nowhere

-- with its place
abbrev pub placed : Item → spec.Placed
placed x = spec.placed (span x) (item x)
