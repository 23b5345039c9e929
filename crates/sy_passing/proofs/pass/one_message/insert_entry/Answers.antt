use Rattle.sy_passing.proofs.Ready.{board_in_hand, board_queued, board_ready, grab_refused, made_of}
use Rattle.sy_passing.proofs.pass.one_message.insert_entry.Goals as goal

pub take-requires-clause-made : goal.take-requires-clause-made
take-requires-clause-made c = made_of _ _ c.requires.idle c.requires.node

pub unreachable-requires-in_default-grab : goal.unreachable-requires-in_default-grab
unreachable-requires-in_default-grab c =
    let on_hand = board_in_hand _ _ _ _ c.requires.idle c.requires.node c.in-Ok-InHand.ensures.ok in
    grab_refused _ _ _ _ c.requires.room (board_queued _ _ _ _ _ on_hand c.in-Ok-Entered.ensures.ok) c.in_default-grab.ensures.err

pub returns-clause-ready : goal.returns-clause-ready
returns-clause-ready c =
    let on_hand = board_in_hand _ _ _ _ c.requires.idle c.requires.node c.in-Ok-InHand.ensures.ok in
    board_ready _ _ _ _ _ _ (board_queued _ _ _ _ _ on_hand c.in-Ok-Entered.ensures.ok) c.in-Ok.ensures.ok
