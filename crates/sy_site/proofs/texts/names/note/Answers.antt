use Rattle.sy_site.proofs.texts.names.note.Goals as goal

pub returns-in-Ok-clause-clean : goal.returns-in-Ok-clause-clean
returns-in-Ok-clause-clean c = rw c.in-Some.ensures.some c.in-Ok.ensures.clean

pub returns-in-Err-clause-err : goal.returns-in-Err-clause-err
returns-in-Err-clause-err c = rw c.in-Some.ensures.some c.in-Err.ensures.err
