-- What is written of statements as it stands.
use Rattle.std.specs.Prelude.{ℕ, ◌-◌, Bool, true, false, List, [], Option, None, Some, slice_get}
use Rattle.std.specs.List.{slice_range}
use Rattle.sy_fleet_text.specs.declared.piece.Kind.{Kind}
use Rattle.sy_fleet_text.specs.declared.piece.Kind.TheVariants as k
use Rattle.sy_fleet_text.specs.declared.piece.Mark.TheVariants as mark
use Rattle.sy_fleet_text.specs.declared.piece.Piece.{Piece}
use Rattle.sy_fleet_text.specs.declared.piece.Word.TheVariants as word
use Rattle.sy_fleet.specs.declared.statements.Statement.{Statement}
use Rattle.sy_conversion.specs.Conversions.{piece_of}

abbrev pub last_of : List Piece → Option Statement → Option Piece
last_of pieces None = None
last_of pieces (Some s) = slice_get pieces (s.end - 1)

abbrev pub between : List ℕ → Option Piece → Option Piece → List ℕ
between text None last = []
between text (Some first) None = []
between text (Some first) (Some last) = slice_range text first.start last.end

-- the bytes of a statement, from its first piece up to its last
abbrev pub bytes_of : List ℕ → List Piece → List Statement → ℕ → List ℕ
bytes_of text pieces statements number =
    between text (piece_of pieces (slice_get statements number)) (last_of pieces (slice_get statements number))

-- what is written as it stands: a stop, and the end of a block
abbrev pub is_copied : Kind → Bool
is_copied (k.Word word.Stop) = true
is_copied (k.Mark mark.BlockClosing) = true
is_copied _ = false
