-- What laws of lists say.
use Rattle.std.specs.Prelude.{◌≡◌, ℕ, ◌<◌, true, List, [], ◌∷◌}
use Rattle.sy_rules.specs.lists.Body.{is_in}
use Rattle.sy_rules.specs.lists.Lines.{Lines, calls, list_at}

-- each number is below those after it
abbrev pub IsRising : List ℕ → Type 0
IsRising [] = Unit {0}
IsRising (n ∷ later) = ((k : ℕ) → is_in k later ≡ true → n < k) × IsRising later

-- Calls made at once that lie in one another: the list calls the first of these, that one calls the second, and so on.
abbrev pub IsChain : List Lines → ℕ → List ℕ → Type 0
IsChain lists l [] = Unit {0}
IsChain lists l (callee ∷ later) = (is_in callee (calls (list_at lists l)) ≡ true) × IsChain lists callee later
