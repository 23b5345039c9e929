-- Cutting a line into words.
use Rattle.std.proofs.Common.{◌≡◌, ℕ, List, refl, sym, ap, ◌∙◌}
use Rattle.std.proofs.lemmas.List.Splits.{join_with_byte-slice_split}
use Rattle.std.specs.List.{join_with_byte}
use Rattle.sy_wire.specs.Words.{words_in}
use Rattle.sy_replay.specs.internal.Reading.{AreRaw}

-- A line is its words with single spaces between them,
pub joined : (line : List ℕ) → join_with_byte 32 (words_in line) ≡ line
joined line = join_with_byte-slice_split 32 line

-- and so no two lines have the same words.
pub same_line : (a b : List ℕ) → words_in a ≡ words_in b → a ≡ b
same_line a b e = sym (joined a) ∙ ap (join_with_byte 32) e ∙ joined b

pub words_of : (raw : List ℕ) → AreRaw (words_in raw)
words_of raw = (raw, refl)
