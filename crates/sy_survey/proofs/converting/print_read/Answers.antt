use Rattle.sy_survey.proofs.Printed.{relay_printed}
use Rattle.sy_survey.proofs.converting.print_read.Goals as goal

pub returns-in-Ok-clause-printed : goal.returns-in-Ok-clause-printed
returns-in-Ok-clause-printed g c =
    relay_printed c.args.selector.now c.args.conversion.text.items c.answer_of.result c.print.result c.args.out.now c.print.new.out
    c.answer_of.ensures.text c.answer_of.ensures.sound c.print.ensures.printed c.print.ensures.failed
