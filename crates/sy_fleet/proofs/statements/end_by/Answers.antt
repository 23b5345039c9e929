use Rattle.std.proofs.Common.{◌≡◌, ◌≢◌, ◌<◌, arith, inr, refl}
use Rattle.std.specs.Prelude.{slice_get, IfSome}
use Rattle.std.proofs.lemmas.Bool.{false≢true}
use Rattle.sy_fleet_text.specs.declared.piece.Kind.TheVariants as k
use Rattle.sy_fleet_text.specs.declared.piece.Piece.{Piece}
use Rattle.sy_fleet.proofs.Sorts.{and_number, at_number, more_below}
use Rattle.sy_fleet.proofs.statements.end_by.Goals as goal

pub returns-then-is_same-clause-ends : goal.returns-then-is_same-clause-ends
returns-then-is_same-clause-ends c = (
  λ at behind low. c.loop-at.invariant at (omega (arith, low)) behind,
  inr (
    c.loop-at.at,
    refl,
    and_number {A = Piece} (λ piece. piece.kind ≡ c.args.end) c.args.pieces.now c.loop-at.at
        (record { kind = k.Blank; start = 0; end = 0; depth = 0 }) c.loop-at-test.true (c.if-is_same.ensures.0 refl),
  ),
)

pub loop-at-preserved : goal.loop-at-preserved
loop-at-preserved c = more_below (λ at. c.args.first < at → IfSome (slice_get c.args.pieces.now at) (λ piece. piece.kind ≢ c.args.end)) c.loop-at.at
    (λ behind. at_number {A = Piece} (λ piece. piece.kind ≢ c.args.end) c.args.pieces.now c.loop-at.at
    (record { kind = k.Blank; start = 0; end = 0; depth = 0 }) (λ same. false≢true (c.if-is_same.ensures.1 same)))
    c.loop-at.invariant
