-- The lines of a text, as they are parted by line feeds, and the words of a line.
use Rattle.std.specs.Prelude.{ℕ, ◌==◌, List}
use Rattle.std.specs.List.{slice_split}
use Rattle.std.specs.Str.Lines.{strip_carriage_return}
use Rattle.sy_site.specs.texts.Lines.{words}

abbrev pub line_feed : ℕ
line_feed = 10

-- what stands between line feeds
abbrev pub lines_of : List ℕ → List (List ℕ)
lines_of text = slice_split (λ b. b == line_feed) text

-- the words of a line, which may end in a carriage return
abbrev pub words_of : List ℕ → List (List ℕ)
words_of line = words (strip_carriage_return line)
