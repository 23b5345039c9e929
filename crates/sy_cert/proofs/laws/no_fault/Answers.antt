use Rattle.sy_cert.proofs.Uniqueness.{no_fault}
use Rattle.sy_cert.proofs.laws.no_fault.Goals as goal

pub returns : goal.returns
returns c = no_fault
