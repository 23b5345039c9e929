use Rattle.sy_cert.specs.Faults.{HasShape}
use Rattle.sy_cert.proofs.RowLines.{class_unwritten}
use Rattle.sy_cert.proofs.reading.class_row.Goals as goal

pub returns-in-None-number-clause-err : goal.returns-in-None-number-clause-err
returns-in-None-number-clause-err c version = (
  HasShape.class_line c.in-Some.word.now c.in-Some.ensures.some,
  class_unwritten version _ c.in-Some.word.now c.in-Some.ensures.some c.in-None-number.ensures.none,
)
