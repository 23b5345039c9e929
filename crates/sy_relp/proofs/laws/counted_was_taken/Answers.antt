use Rattle.sy_relp.proofs.SenderLaws.{counted_was_taken}
use Rattle.sy_relp.proofs.laws.counted_was_taken.Goals as goal

pub returns : goal.returns
returns g c = counted_was_taken g.R.Source.remaining g.W.Sink.contents
