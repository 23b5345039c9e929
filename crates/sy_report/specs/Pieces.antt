-- Names in pieces, as they are printed.
use Rattle.std.specs.Prelude.{ℕ, List}
use Rattle.sy_report.specs.declared.texts.printed.Piece.{Piece}
use Rattle.sy_report.specs.declared.texts.printed.Piece.TheVariants as piece

-- what is printed of a character that stands as it is, or of a byte that is escaped
abbrev pub piece_text : Piece → List ℕ
piece_text (piece.Character bytes) = bytes.now
piece_text (piece.Byte bytes) = bytes
