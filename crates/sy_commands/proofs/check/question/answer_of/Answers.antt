use Rattle.sy_commands.proofs.check.question.answer_of.Goals as goal

pub returns-clause-ok : goal.returns-clause-ok
returns-clause-ok g c = λ text known. (c.in_ok-site.site, c.in_ok-site.ensures.ok text known, c.in_ok-answer.ensures.verdict, c.in_ok-answer.ensures.words)
