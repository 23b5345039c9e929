-- The lines of a site file, and the words of a line (this profile's own).
use Rattle.std.specs.Prelude.{ℕ, Bool, true, false, not, ◌||◌, ◌==◌, List, [], ◌∷◌, length, map, filter}
use Rattle.std.specs.List.{slice_split}
use Rattle.std.specs.Str.{bytes_eq}
use Rattle.std.specs.Str.Lines.{lines}

abbrev pub space : ℕ
space = 32

abbrev pub tab : ℕ
tab = 9

abbrev pub number_sign : ℕ
number_sign = 35

-- what separates words
abbrev pub is_blank : ℕ → Bool
is_blank b = b == space || b == tab

-- the words of a line: what stands between blanks
unfoldable pub words : List ℕ → List (List ℕ)
words line = filter (λ word. not (length word == 0)) (slice_split is_blank line)

-- The lines of a text, each as its words. A line ends with LF or CR LF. A CR at the end of the text, without an LF, belongs to the last word.
unfoldable pub word_lines : List ℕ → List (List (List ℕ))
word_lines text = map words (lines text)

-- a line without words, or a comment: its first byte that is no blank is a number sign
abbrev pub is_skipped : List (List ℕ) → Bool
is_skipped [] = true
is_skipped ([] ∷ later) = false
is_skipped ((b ∷ word) ∷ later) = b == number_sign

-- the first word of a line is this one
abbrev pub is_kind : List ℕ → List (List ℕ) → Bool
is_kind kind [] = false
is_kind kind (word ∷ later) = bytes_eq word kind
