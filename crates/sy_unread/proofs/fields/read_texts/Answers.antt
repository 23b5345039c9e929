use Rattle.std.proofs.Common.{refl}
use Rattle.sy_unread.specs.internal.Fields.{texts_at}
use Rattle.sy_unread.proofs.fields.read_texts.Goals as goal

pub returns : goal.returns
unfolding texts_at
returns c = rw (c.in_ok-after.ensures, c.in_ok-relay.ensures.first, c.in_ok-input.ensures, c.in_ok-peer.ensures, c.in_ok-frame.ensures, c.in_ok-fault.ensures, c.in_ok-at.ensures) refl
