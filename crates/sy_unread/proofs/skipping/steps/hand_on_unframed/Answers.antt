use Rattle.std.proofs.Common.{arith, refl, ◌<◌, length}
use Rattle.sy_unread.proofs.Turns.{hands_unframed, not_nil}
use Rattle.sy_unread.proofs.skipping.steps.hand_on_unframed.Goals as goal

pub returns : goal.returns
returns c kept ahead =
    let held_some : 0 < length c.args.standing.now.held = not_nil _ c.requires.held in
    let handed = hands_unframed c.args.standing.now c.hand_on.new.self c.hand_on.result c.hand_on.new.buffer ahead c.requires.at c.hand_on.ensures.place c.hand_on.ensures.frames c.hand_on.ensures.whole in
    (omega (arith, c.hand_on.ensures.count), handed, refl, λ none. absurd (omega (arith, none, c.hand_on.ensures.count, c.requires.room, held_some)))
