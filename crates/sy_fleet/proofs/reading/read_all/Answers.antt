use Rattle.std.proofs.Common.{arith}
use Rattle.std.proofs.Common.{◌≡◌, true}
use Rattle.sy_fleet_text.specs.declared.piece.Kind.TheVariants as k
use Rattle.sy_fleet_text.specs.declared.piece.Piece.{Piece}
use Rattle.sy_fleet.specs.Statements.{may_become, none, more}
use Rattle.sy_fleet.proofs.Sorts.{at_number}
use Rattle.sy_fleet.proofs.reading.read_all.Goals as goal

pub loop-first-init : goal.loop-first-init
loop-first-init c = (omega arith, rw c.new-statements.ensures.items none)

pub loop-first-preserved : goal.loop-first-preserved
loop-first-preserved c =
    let end = c.statement_end-end.ensures in (
      end.within,
      rw c.in_ok-push_statement.ensures (more c.loop-first.invariant.1 (record {
        some = end.goes_on;
        within = end.within;
        ends = end.ends;
        sort = at_number {A = Piece} (λ piece. may_become piece.kind c.in_ok-sort.sort ≡ true) c.args.walk.now.pieces.now c.loop-first.first
            (record { kind = k.Blank; start = 0; end = 0; depth = 0 }) c.in_ok-sort.ensures;
      })),
    )
