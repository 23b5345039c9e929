use Rattle.sy_runtime.proofs.worker.posting.entry_of.Goals as goal

pub returns-in-Ok-new : goal.returns-in-Ok-new
returns-in-Ok-new c = (c.due-due.result, rw c.deref.ensures at c.due-due.ensures, rw c.in-Ok.ensures at c.in-Ok-new.ensures.ok)
