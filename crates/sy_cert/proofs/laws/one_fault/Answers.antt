use Rattle.sy_cert.proofs.Uniqueness.{one_fault}
use Rattle.sy_cert.proofs.laws.one_fault.Goals as goal

pub returns : goal.returns
returns c = one_fault
