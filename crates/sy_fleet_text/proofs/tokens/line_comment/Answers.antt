use Rattle.sy_fleet_text.specs.Pieces.{line}
use Rattle.sy_fleet_text.proofs.tokens.line_comment.Goals as goal

pub stretch-requires-clause-kind : goal.stretch-requires-clause-kind
stretch-requires-clause-kind c = λ end each. line c.requires.hash each
