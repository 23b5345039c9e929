-- How the program was built, and what a document says of that (this profile's own).
use Rattle.std.specs.Prelude.{ℕ, ◌==◌, List, [], ◌∷◌, ◌++◌, Option, codes, drop, length, nat_eq}
use Rattle.std.specs.List.{find, slice_split, starts_with}
use Rattle.std.specs.Option.{option_map}
use Rattle.sy_report.specs.Reports.{line_feed}

-- the last bytes of a program's file, where they have these lines
abbrev pub record_of : List ℕ → List ℕ
record_of lines = codes "syc-build 1" ++ (line_feed ∷ lines)

-- the lines of a record
abbrev pub lines_of : List ℕ → List (List ℕ)
lines_of lines = slice_split (λ b. b == line_feed) lines

-- what the first line of a record that begins with this name has behind it
abbrev pub value_of : List ℕ → List ℕ → Option (List ℕ)
value_of lines name = option_map (λ line. drop (length name) line) (find (λ line. starts_with nat_eq line name) (lines_of lines))

-- A document with an object as its first member, in the place of the brace that it begins with.
abbrev pub with_basis : (basis document : List ℕ) → List ℕ
with_basis basis document = codes "{\"basis\":" ++ (basis ++ (codes "," ++ drop 1 document))
