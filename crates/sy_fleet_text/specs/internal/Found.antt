-- What is found at a place of a text.
use Rattle.std.specs.Prelude.{◌≡◌, ℕ, ◌<◌, ◌≤◌, List, length, Result, Ok, Err}
use Rattle.sy_fleet_text.specs.Pieces.{IsPiece, Shows}
use Rattle.sy_fleet_text.specs.declared.fault.Refusal.{Refusal}
use Rattle.sy_fleet_text.specs.declared.fault.Refusal.TheVariants as refusal
use Rattle.sy_fleet_text.specs.declared.tokens.Found.{Found}

-- what was found at a place: a piece of its kind, of at least one byte, in the text
pub record IsFound (text : List ℕ) (at : ℕ) (found : Found) : Type 0 where
  pub some : at < found.end
  pub within : found.end ≤ length text
  pub is : IsPiece found.kind text at found.end

-- what is read at a place, or why nothing is
abbrev pub Reads : List ℕ → ℕ → Result Found Refusal → Type 0
Reads text at (Ok found) = IsFound text at found
Reads text at (Err refusal) = Shows refusal text at

-- a place behind another
pub record IsBehind (text : List ℕ) (from end : ℕ) : Type 0 where
  pub order : from ≤ end
  pub within : end ≤ length text

-- where a filter's value ends
abbrev pub EndsValue : List ℕ → ℕ → Result ℕ Refusal → Type 0
EndsValue text from (Ok end) = IsBehind text from end
EndsValue text from (Err e) = e ≡ refusal.Unexpected
