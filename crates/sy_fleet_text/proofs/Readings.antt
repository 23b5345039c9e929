-- How a text is read on, piece by piece.
use Rattle.std.proofs.Common.{◌≡◌, ℕ, ◌<◌, ◌≤◌, true, List, [], ◌∷◌, ◌++◌, length, get_or, refl, subst}
use Rattle.std.specs.Prelude.{Option, Some, None}
use Rattle.std.proofs.lemmas.Bool.{eqb-true}
use Rattle.sy_fleet_text.specs.internal.Found.{IsFound}
use Rattle.sy_fleet_text.specs.Pieces.{IsPiece, context_after, depth_after}
use Rattle.sy_fleet_text.specs.Texts.{Covers, Reached, Stands, piece, none}
use Rattle.sy_fleet_text.specs.declared.piece.Kind.{Kind}
use Rattle.sy_fleet_text.specs.declared.piece.Kind.TheVariants as k
use Rattle.sy_fleet_text.specs.declared.piece.Mark.TheVariants as mark
use Rattle.sy_fleet_text.specs.declared.piece.Piece.{Piece}
use Rattle.sy_fleet_text.specs.declared.statements.Context.{Context}
use Rattle.sy_fleet_text.specs.declared.tokens.Found.{Found}

-- one more piece at the end
pub covers_more : {text : List ℕ} {first reached : Reached} {pieces : List Piece} (p : Piece) {depth : ℕ} → Covers text first pieces reached → Stands text reached p → depth_after p.kind reached.depth ≡ Some depth
    → Covers text first (pieces ++ p ∷ []) (record { at = p.end; context = context_after reached.context p.kind; depth = depth })
covers_more p none stands after = piece stands after none
covers_more p (piece s a rest) stands after = piece s a (covers_more p rest stands after)

-- what was found stands where it was looked for
pub stands_found : {text : List ℕ} {at : ℕ} {found : Found} (context : Context) (depth : ℕ) → IsFound text at found
    → Stands text (record { at = at; context = context; depth = depth }) (record { kind = found.kind; start = at; end = found.end; depth = depth })
stands_found context depth f = record { begins = refl; some = f.some; within = f.within; is = f.is; depth = refl }

-- a piece that closes a block is a `}`
pub closing_byte : (text : List ℕ) (at end : ℕ) (kind : Kind) → kind ≡ k.Mark mark.BlockClosing → IsPiece kind text at end → get_or text at 0 ≡ 125
closing_byte text at end kind closes is =
    let closing : IsPiece (k.Mark mark.BlockClosing) text at end = subst (λ kind. IsPiece kind text at end) closes is in
    eqb-true _ _ closing.0
