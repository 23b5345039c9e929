-- A text and its pieces.
use Rattle.std.specs.Prelude.{◌≡◌, ℕ, ◌+◌, ◌<◌, ◌≤◌, List, [], ◌∷◌, length, Option, Some, None}
use Rattle.sy_fleet_text.specs.Pieces.{IsPiece, at_end, context_after, depth_after}
use Rattle.sy_fleet_text.specs.declared.piece.Piece.{Piece}
use Rattle.sy_fleet_text.specs.declared.statements.Context.{Context}
use Rattle.sy_fleet_text.specs.declared.statements.Context.TheVariants as context

-- how far a text is read: up to which place, what is read there, and how many blocks are open
pub record Reached : Type 0 where
  pub at : ℕ
  pub context : Context
  pub depth : ℕ

-- The piece stands there: it begins at the place, has at least one byte, all of them in the text and of its kind, and its
-- depth is how many blocks are open before it.
pub record Stands (text : List ℕ) (reached : Reached) (piece : Piece) : Type 0 where
  pub begins : piece.start ≡ reached.at
  pub some : reached.at < piece.end
  pub within : piece.end ≤ length text
  pub is : IsPiece piece.kind text reached.at piece.end
  pub depth : piece.depth ≡ reached.depth

-- The pieces cover the text from the one place to the other: each begins where the one before ends, so that no byte is left
-- out, and none is in two.
pub data Covers (text : List ℕ) : Reached → List Piece → Reached → Type 0 where
  none : {reached : Reached} → Covers text reached [] reached
  piece : {reached last : Reached} {p : Piece} {pieces : List Piece} {depth : ℕ} → Stands text reached p → depth_after p.kind reached.depth ≡ Some depth
      → Covers text (record { at = p.end; context = context_after reached.context p.kind; depth = depth }) pieces last → Covers text reached (p ∷ pieces) last

-- where reading begins
abbrev pub start : Reached
start = record { at = 0; context = context.Statements; depth = 0 }

-- The pieces are those of a whole text: they cover it from its first byte to its end, where no statement and no block is open.
pub record IsText (text : List ℕ) (pieces : List Piece) : Type 0 where
  pub last : Reached
  pub covers : Covers text start pieces last
  pub at : last.at ≡ length text
  pub ended : at_end last.context last.depth ≡ None
