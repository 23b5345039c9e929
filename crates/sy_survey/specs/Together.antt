-- How the files that a configuration includes are put into one text (this profile's own).
use Rattle.std.specs.Prelude.{◌≡◌, ℕ, List, [], ◌∷◌, ◌++◌, Option, Some, All, flat_map, take, drop}
use Rattle.sy_fleet_text.specs.Texts.{IsText}
use Rattle.sy_fleet_text.specs.declared.piece.Piece.{Piece}
use Rattle.sy_fleet.specs.Includes.{IsInclude}
use Rattle.sy_survey.specs.declared.tree.Source.{Source}

-- a file between two line feeds
abbrev pub lines_of : Source → List ℕ
lines_of source = (10 ∷ source.text.items) ++ 10 ∷ []

abbrev pub all_lines : List Source → List ℕ
all_lines sources = flat_map lines_of sources

-- files in the place of the bytes from `start` up to `end`
abbrev pub spliced : List ℕ → (start end : ℕ) → List Source → List ℕ
spliced text start end sources = (take start text ++ all_lines sources) ++ drop end text

-- The text has the bytes of the file of that name, where these are known.
abbrev pub IsFile : {F : Type 0} → (F → List ℕ → Option (List ℕ)) → F → Source → Type 0
IsFile bytes_of files source = (bytes : List ℕ) → bytes_of files source.name.bytes.items ≡ Some bytes → source.text.items ≡ bytes

abbrev pub AreRead : {F : Type 0} → (F → List ℕ → Option (List ℕ)) → F → List Source → Type 0
AreRead bytes_of files sources = All (IsFile bytes_of files) sources

-- These bytes of a text that is read are a statement that includes.
pub record IncludesIn (text : List ℕ) (start end : ℕ) : Type 0 where
  pub pieces : List Piece
  pub is_text : IsText text pieces
  pub is : IsInclude text pieces start end

-- Nothing changes, or files of the host come in the place of a statement that includes.
pub data Steps {F : Type 0} (bytes_of : F → List ℕ → Option (List ℕ)) (files : F) (text : List ℕ) : List ℕ → Type 0 where
  stays : Steps bytes_of files text text
  splices : (start end : ℕ) (sources : List Source) → IncludesIn text start end → AreRead bytes_of files sources
      → Steps bytes_of files text (spliced text start end sources)

-- One after the other, so that of each text all but statements that include stands in the whole.
pub data Together {F : Type 0} (bytes_of : F → List ℕ → Option (List ℕ)) (files : F) (text : List ℕ) : List ℕ → Type 0 where
  alone : Together bytes_of files text text
  more : {whole next : List ℕ} → Together bytes_of files text whole → Steps bytes_of files whole next → Together bytes_of files text next
