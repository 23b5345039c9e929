use Rattle.std.proofs.Common.{◌≡◌, ◌∙◌}
use Rattle.std.proofs.KnownBytes.{Appends-kept}
use Rattle.sy_relp.specs.Frames.{frame}
use Rattle.sy_relp.specs.Exchanges.{open_frame}
use Rattle.sy_relp.proofs.SenderLaws.{says_open}
use Rattle.sy_relp.proofs.opening.open_session.Goals as goal

pub returns-clause-wrote : goal.returns-clause-wrote
returns-clause-wrote g c =
    let text : c.as_slice.result.now ≡ frame open_frame = c.as_slice.ensures ∙ says_open in
    rw text at (Appends-kept _ _ _ c.as_slice.result.now c.in-Ok.ensures.whole c.flush.ensures.bytes)
