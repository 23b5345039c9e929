-- Entries in the content of a frame: each four digits that say how long it is, and its bytes.
use Rattle.std.specs.Prelude.{◌≡◌, ◌<◌, ℕ, ◌+◌, ◌/◌, ◌%◌, List, [], ◌∷◌, ◌++◌, length}

-- four digits to the base 128, the lowest first, each with 128 added
abbrev pub digits : ℕ → List ℕ
digits n = (128 + n % 128) ∷ (128 + n / 128 % 128) ∷ (128 + n / 16384 % 128) ∷ (128 + n / 2097152 % 128) ∷ []

-- each entry behind its length
abbrev pub packed : List (List ℕ) → List ℕ
packed [] = []
packed (entry ∷ entries) = digits (length entry) ++ (entry ++ packed entries)

-- each of these is short enough for four digits
abbrev pub AreShort : List (List ℕ) → Type 0
AreShort [] = Unit {0}
AreShort (entry ∷ entries) = (length entry < 268435456) × AreShort entries

-- these entries, and this behind them
pub record Unpacked (content : List ℕ) (entries : List (List ℕ)) (rest : List ℕ) : Type 0 where
  pub short : AreShort entries
  pub is : content ≡ packed entries ++ rest

-- these are no entries
abbrev pub IsNotPacked : List ℕ → Type 0
IsNotPacked content = (entries : List (List ℕ)) → AreShort entries → content ≡ packed entries → ⊥
