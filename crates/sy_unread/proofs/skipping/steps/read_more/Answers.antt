use Rattle.std.proofs.Common.{◌<◌, ◌∙◌, arith, ap, length, refl, sym}
use Rattle.sy_unread.specs.Skipping.{At, rests}
use Rattle.sy_unread.proofs.Turns.{came_goes, hands_cut, not_nil, not_stray, stays}
use Rattle.sy_unread.proofs.skipping.steps.read_more.Goals as goal

pub returns-in_default-clause-turn : goal.returns-in_default-clause-turn
returns-in_default-clause-turn g c kept = stays _ _ _ kept c.in_default.ensures.kept

pub returns-then-count-eq0-clause-turn : goal.returns-then-count-eq0-clause-turn
returns-then-count-eq0-clause-turn g c kept =
    let read = rw c.if-count-eq0.true at c.in-Ok.ensures.read in
    let same_held = ap (λ (a : At). a.held) c.set_place.ensures in
    let same_size = ap length same_held in
    let held_some : 0 < length c.args.standing.now.held = not_nil _ c.requires.held in
    let place = c.hand_on.ensures.place ∙ ap (λ (a : At). a.place) c.set_place.ensures in
    let frames = c.hand_on.ensures.frames ∙ ap (λ (a : At). a.frames) c.set_place.ensures in
    let handed = hands_cut c.args.standing.now c.hand_on.new.self c.hand_on.result c.hand_on.new.buffer _ _ c.requires.place place frames c.requires.cut read.consumed (read.at_end refl)
    (sym same_held ∙ c.hand_on.ensures.whole) in
    (omega (arith, c.hand_on.ensures.count), handed, refl, λ none. absurd (omega (arith, none, c.hand_on.ensures.count, same_size, c.requires.room, held_some)))

pub returns-clause-turn : goal.returns-clause-turn
returns-clause-turn g c kept = came_goes _ _ _ _ kept _ c.in-Ok.ensures.read.consumed (rw c.append.ensures rests) (λ place. absurd (not_stray 0 _ (ap (λ (a : At). a.place) c.append.ensures ∙ c.requires.place) place))
