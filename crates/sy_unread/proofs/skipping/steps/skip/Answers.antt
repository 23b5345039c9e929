use Rattle.std.proofs.Common.{arith, ap, refl}
use Rattle.sy_unread.specs.Skipping.{At}
use Rattle.sy_unread.proofs.Turns.{hands_none, held_none, skips_long, skips_none, stays}
use Rattle.sy_unread.proofs.skipping.steps.skip.Goals as goal

pub returns-then-left-eq0-clause-turn : goal.returns-then-left-eq0-clause-turn
returns-then-left-eq0-clause-turn g c kept =
    let place = ap (λ (a : At). a.place) c.requires.at in
    rw (c.set_place.ensures, c.past_long.ensures) (skips_none c.args.standing.now c.args.left _ kept place)

pub returns-in_default-clause-turn : goal.returns-in_default-clause-turn
returns-in_default-clause-turn g c kept = stays _ _ _ kept c.in_default.ensures.kept

pub returns-then-count-eq0-clause-turn : goal.returns-then-count-eq0-clause-turn
returns-then-count-eq0-clause-turn g c kept =
    let read = rw c.if-count-eq0.true at c.in-Ok.ensures.read in
    (omega arith, hands_none c.args.standing.now c.read_front.new.buffer _ _ read, refl, λ _. (read.at_end refl, held_none _ _ c.requires.at))

pub returns-clause-turn : goal.returns-clause-turn
returns-clause-turn g c kept =
    rw (c.set_place-2.ensures, c.past_long-2.ensures) (skips_long c.args.standing.now c.args.left c.in-Ok.count c.read_front.new.buffer _ _ kept c.requires.at c.in-Ok.ensures.bound c.in-Ok.ensures.read)
