use Rattle.std.proofs.Common.{◌∙◌}
use Rattle.std.proofs.lemmas.Result.{err_from_is_err_and}
use Rattle.sy_report.proofs.Lines.{piece_more, torn_piece}
use Rattle.sy_report.proofs.writing.line.write_pieces.Goals as goal

pub returns-in_err-write_all-clause-torn : goal.returns-in_err-write_all-clause-torn
returns-in_err-write_all-clause-torn g c =
    let p = err_from_is_err_and c.from_residual.result c.from_residual.ensures.1 in
    let before = c.loop-piece.invariant.wrote in
    rw p.1 (torn_piece _ _ _ _ before.0 _ _ _ _ before.1 before.2 c.in-Some.ensures.some.0 c.as_slice.ensures c.in_err-write_all.ensures.torn)

pub loop-piece-preserved : goal.loop-piece-preserved
loop-piece-preserved g c = let before = c.loop-piece.invariant.wrote in record {
  wrote = piece_more _ _ _ _ before.0 _ _ _ _ before.1 before.2 c.in-Some.ensures.some.0 c.as_slice.ensures c.in_ok-write_all.ensures.ok;
  same = c.in_ok-write_all.ensures.same ∙ c.loop-piece.invariant.same;
}
