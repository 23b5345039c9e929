use Rattle.std.proofs.Common.{◌≡◌, [], ap}
use Rattle.sy_wire.specs.Frames.{Held}
use Rattle.sy_relp.proofs.SenderLaws.{opens}
use Rattle.sy_relp.proofs.sender.Sender.open.Goals as goal

pub returns-in-Ok : goal.returns-in-Ok
returns-in-Ok g c =
    let none : c.new-frames.result.left ≡ [] = ap (λ (v : Held). v.left) c.new-frames.ensures in
    opens g.R.Source.remaining g.W.Sink.contents _ _ _ _ _ _ c.in-Ok.ensures.wrote (rw none at c.in-Ok.ensures.heard)
