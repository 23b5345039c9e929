use Rattle.std.proofs.Common.{◌≡◌, [], ap}
use Rattle.sy_wire.specs.Frames.{Held}
use Rattle.sy_relp.proofs.SenderLaws.{opens}
use Rattle.sy_relp.proofs.sender.Sender.renew.Goals as goal

pub returns-in-Ok-clause-ok : goal.returns-in-Ok-clause-ok
returns-in-Ok-clause-ok g c =
    let none : c.new.result.left ≡ [] = ap (λ (v : Held). v.left) c.new.ensures in
    opens g.R.Source.remaining g.W.Sink.contents _ _ _ _ _ _ c.in-Ok.ensures.wrote (rw none at c.in-Ok.ensures.heard)
