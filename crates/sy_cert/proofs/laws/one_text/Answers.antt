use Rattle.sy_cert.proofs.Uniqueness.{one_text}
use Rattle.sy_cert.proofs.laws.one_text.Goals as goal

pub returns : goal.returns
returns c = one_text
