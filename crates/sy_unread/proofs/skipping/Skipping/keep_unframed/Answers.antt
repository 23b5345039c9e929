use Rattle.std.proofs.Common.{◌≡◌, ◌∙◌, ap, take}
use Rattle.sy_unread.proofs.Turns.{sets_stray, stays_same, take_least}
use Rattle.sy_unread.proofs.skipping.Skipping.keep_unframed.Goals as goal

pub returns-in_default-clause-turn : goal.returns-in_default-clause-turn
returns-in_default-clause-turn g c ahead buffer = stays_same _ ahead _ _ c.in_default.ensures.err

pub returns-clause-turn : goal.returns-clause-turn
returns-clause-turn g c ahead buffer =
    let first : take c.min.result c.held-held.result.now ≡ take 1024 c.args.self.now.standing.held =
    ap (λ k. take k c.held-held.result.now) c.min.ensures ∙ take_least c.held-held.result.now 1024 ∙ ap (take 1024) c.held-held.ensures in
    rw c.set_place.ensures (sets_stray c.args.self.now.standing _ ahead _ _ c.requires.place c.requires.front first (rw (← c.next_number-frame.ensures) c.in-Ok.ensures.ok))
