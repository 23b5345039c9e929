-- Tokens stand one after another.
use Rattle.std.specs.Prelude.{ℕ, ◌<◌, ◌≤◌, List, [], ◌∷◌}
use Rattle.sy_script.specs.declared.token.Token.{Token}

-- From the first place on, each token begins at or after the end of the one before; none is empty, and the last ends by the second place.
abbrev pub InOrder : ℕ → List Token → ℕ → Type 0
InOrder low [] high = low ≤ high
InOrder low (t ∷ ts) high = (low ≤ t.span.start) × (t.span.start < t.span.end) × InOrder t.span.end ts high
