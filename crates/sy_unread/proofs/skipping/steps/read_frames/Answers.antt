use Rattle.std.proofs.Common.{arith, refl}
use Rattle.sy_unread.proofs.Turns.{hands_none, held_none, stays}
use Rattle.sy_unread.proofs.skipping.steps.read_frames.Goals as goal

pub returns-in_default-clause-turn : goal.returns-in_default-clause-turn
returns-in_default-clause-turn g c kept = stays _ _ _ kept c.in_default.ensures.kept

pub returns-then-count-eq0-clause-turn : goal.returns-then-count-eq0-clause-turn
returns-then-count-eq0-clause-turn g c kept =
    let read = rw c.if-count-eq0.true at c.in-Ok.ensures.read in
    (omega arith, hands_none c.args.standing.now c.read_front.new.buffer _ _ read, refl, λ _. (read.at_end refl, held_none _ _ c.requires.at))
