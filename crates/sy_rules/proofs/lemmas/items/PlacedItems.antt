-- The code's items with their places, and without.
use Rattle.std.proofs.Common.{◌≡◌, ◌<◌, List, [], ◌∷◌, ◌++◌, length, map, sym, ap, ◌∙◌, append-nil, arith}
use Rattle.std.proofs.lemmas.Simd.{map-map}
use Rattle.sy_script.specs.declared.tree.Top.{Top}
use Rattle.sy_rules.specs.declared.items.outline.Item.{Item as CodeItem}
use Rattle.sy_rules.specs.items.Outline.{Placed, items_of, items_of_tops, placed_in_tops}
use Rattle.sy_rules.specs.items.ItemViews.{item, placed}

pub items_placed : (items : List CodeItem) → items_of (map placed items) ≡ map item items
items_placed items = map-map (λ (x : Placed). x.item) placed items

-- those of a file, of which nothing is left
pub outlined : (items : List CodeItem) (rest tops : List Top) → length rest < 1 → map placed items ++ placed_in_tops rest ≡ placed_in_tops tops → map item items ≡ items_of_tops tops
outlined items [] tops none e = sym (items_placed items) ∙ ap items_of (sym (append-nil (map placed items)) ∙ e)
outlined items (x ∷ rest) tops none e = absurd (omega (arith, none))
