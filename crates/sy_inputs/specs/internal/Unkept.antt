-- Whole entries that no file keeps, as they are looked for.
use Rattle.std.specs.Prelude.{ℕ, ◌<◌, List, Option}
use Rattle.sy_site.specs.Sites.{Site}
use Rattle.sy_inputs.specs.WholeEntries.{IsUnkept}

-- no input of a lower number is one
abbrev pub NoneBefore : Site → ℕ → Option (List ℕ) → ℕ → Type 0
NoneBefore site relay given number = (before : ℕ) → before < number → IsUnkept site relay given before → ⊥
