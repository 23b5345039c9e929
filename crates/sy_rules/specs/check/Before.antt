-- One element before another.
use Rattle.std.specs.Prelude.{◌≡◌, List, ◌∷◌, ◌++◌, Contains}

-- y stands in the list, and x somewhere before it
abbrev pub IsBefore : {A : Type 0} → A → A → List A → Type 0
IsBefore {A} x y xs = (before : List A) × (after : List A) × (xs ≡ before ++ y ∷ after) × Contains before x
