-- Lines and columns, in terms of the line feeds before a place.
use Rattle.std.specs.Prelude.{◌≡◌, ◌≢◌, ◌⊎◌, ℕ, ◌+◌, if◌then◌else◌, ◌==◌, List, [], ◌∷◌, ◌++◌, length}
use Rattle.sy_script.specs.Bytes.{line_feed}

-- how many line feeds there are
abbrev pub feeds : List ℕ → ℕ
feeds [] = 0
feeds (b ∷ bytes) = if b == line_feed then feeds bytes + 1 else feeds bytes

-- none is a line feed
abbrev pub IsOneLine : List ℕ → Type 0
IsOneLine [] = Unit {0}
IsOneLine (b ∷ bytes) = (b ≢ line_feed) × IsOneLine bytes

-- The place after these bytes: the line is one more than the line feeds before it, and the column one more than the bytes after the last of them.
pub record IsPlace (before : List ℕ) (line column : ℕ) : Type 0 where
  pub above : List ℕ
  pub last : List ℕ
  pub is_before : before ≡ above ++ last
  pub is_one_line : IsOneLine last
  pub is_above : (above ≡ []) ⊎ ((lines : List ℕ) × (above ≡ lines ++ line_feed ∷ []))
  pub line_is : line ≡ feeds before + 1
  pub column_is : column ≡ length last + 1
