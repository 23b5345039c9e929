-- The words that say in which folder files are looked for.
use Rattle.std.specs.Prelude.{◌≡◌, ℕ, List, ◌∷◌, codes}

-- These words are `-C` and a folder before others.
abbrev pub BeginWithFolder : List (List ℕ) → Type 0
BeginWithFolder (option ∷ folder ∷ word ∷ later) = option ≡ codes "-C"
BeginWithFolder words = ⊥
