use Rattle.std.proofs.Common.{inr}
use Rattle.sy_site.specs.internal.Lines.{relay_line_of}
use Rattle.sy_site.proofs.lemmas.texts.FaultsFound.{file_refused}
use Rattle.sy_site.proofs.texts.relays.fault_of.Goals as goal

pub returns-in-Ok : goal.returns-in-Ok
returns-in-Ok c = λ files bytes given refused.
    inr (file_refused files (relay_line_of c.args.line.now) c.args.number bytes c.in-Fault.why c.in-Ok.name c.in-Ok.ensures given (rw c.in-Fault.is at refused))
