use Rattle.std.proofs.Common.{arith, refl, ◌<◌, length}
use Rattle.sy_unread.proofs.Turns.{begins_frame, some_held}
use Rattle.sy_unread.proofs.skipping.steps.begin_frame.Goals as goal

pub returns : goal.returns
returns c kept ahead =
    let held_some : 0 < length c.args.standing.now.held = some_held _ _ _ c.requires.head in
    let handed = begins_frame c.args.standing.now c.args.size c.args.from c.hand_on-count.result c.hand_on-count.new.buffer c.hand_on-count.new.self.held ahead
    c.requires.place c.requires.size c.requires.head (omega (arith, c.hand_on-count.ensures.count)) (omega (arith, c.hand_on-count.ensures.count)) c.hand_on-count.ensures.whole in
    (omega (arith, c.hand_on-count.ensures.count), rw (c.set_place.ensures, c.set_frames.ensures, c.next_number.ensures, c.hand_on-count.ensures.frames) handed, refl, λ none. absurd (omega (arith, none, c.hand_on-count.ensures.count, c.requires.room, held_some, c.requires.size.0)))
