use Rattle.std.proofs.Common.{arith, refl, ◌<◌, length}
use Rattle.sy_unread.proofs.Turns.{hands_frames, not_nil}
use Rattle.sy_unread.proofs.skipping.steps.hand_on_frames.Goals as goal

pub returns : goal.returns
returns c kept ahead =
    let held_some : 0 < length c.args.standing.now.held = not_nil _ c.requires.held in
    let handed = hands_frames c.args.standing.now c.args.within c.hand_on-count.result c.hand_on-count.new.buffer c.hand_on-count.new.self.held ahead
    c.requires.at (omega (arith, c.hand_on-count.ensures.count)) (omega (arith, c.hand_on-count.ensures.count)) c.hand_on-count.ensures.whole in
    (omega (arith, c.hand_on-count.ensures.count), rw (c.set_place.ensures, c.hand_on-count.ensures.frames) handed, refl, λ none. absurd (omega (arith, none, c.hand_on-count.ensures.count, c.requires.room, held_some, c.requires.some)))
