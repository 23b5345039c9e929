-- Which classes were looked for (this profile's own).
use Rattle.std.specs.Prelude.{◌≡◌, ℕ, ◌+◌, ◌*◌, ◌<◌, false, List}
use Rattle.sy_select.specs.Selectors.{holds}

-- no class whose number is below this one is in a selector
abbrev pub HasNoneBelow : List ℕ → ℕ → Type 0
HasNoneBelow selector number = (f s : ℕ) → f < 24 → s < 8 → 8 * f + s < number → holds selector f s ≡ false
