use Rattle.sy_commands.proofs.check.question.say_document.Goals as goal

pub returns-in-Check-clause-verdict : goal.returns-in-Check-clause-verdict
returns-in-Check-clause-verdict c = rw c.in-Check.is c.document_of_check.ensures.ok
