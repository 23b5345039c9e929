-- Names of files in a folder (this profile's own).
use Rattle.std.specs.Prelude.{◌≡◌, ◌≢◌, ◌<◌, ◌⊎◌, length, get_or, ℕ, Bool, false, List, [], ◌∷◌, ◌++◌, ◌==◌, if◌then◌else◌}

-- whether a name begins with `/`
abbrev pub is_absolute : List ℕ → Bool
is_absolute [] = false
is_absolute (first ∷ later) = first == 47

-- Such a name stands for itself; another one for the file of that name in the folder.
abbrev pub path : List ℕ → List ℕ → List ℕ
path folder name = if is_absolute name then name else folder ++ name

-- A path is its folder, which is empty or ends in `/`, and a name in which no `/` is.
pub record IsPlace (path folder name : List ℕ) : Type 0 where
  pub whole : folder ++ name ≡ path
  pub ends : (folder ≡ []) ⊎ ((before : List ℕ) × (folder ≡ before ++ 47 ∷ []))
  pub bare : (i : ℕ) → i < length name → get_or name i 0 ≢ 47
