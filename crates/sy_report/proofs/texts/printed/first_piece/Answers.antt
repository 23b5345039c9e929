use Rattle.std.proofs.Common.{◌∙◌, sym}
use Rattle.sy_report.proofs.PrintedNames.{piece_escaped, piece_none, piece_shown}
use Rattle.sy_report.proofs.texts.printed.first_piece.Goals as goal

pub returns-in_default-clause-none : goal.returns-in_default-clause-none
returns-in_default-clause-none c = piece_none c.args.bytes.now (sym c.in_default.ensures.value)

pub returns-then-size-eq0-clause-some : goal.returns-then-size-eq0-clause-some
returns-then-size-eq0-clause-some c =
    piece_escaped c.args.bytes.now c.split_at.result.1.now c.escape.result c.in-Some.first.now c.in-Some.ensures.value
    (sym c.shown_size-size.ensures.is ∙ c.if-size-eq0.true) c.split_at.ensures.back c.escape.ensures

pub returns-clause-some : goal.returns-clause-some
returns-clause-some c =
    piece_shown c.args.bytes.now c.split_at-2.result.0.now c.split_at-2.result.1.now c.shown_size-size.result c.shown_size-size.ensures.is
    c.if-size-eq0.false c.shown_size-size.ensures.within c.split_at-2.ensures.front c.split_at-2.ensures.back
