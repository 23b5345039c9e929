use Rattle.std.proofs.Common.{◌≡◌, ◌+◌, ◌-◌, ◌∙◌, ap, arith, drop, take}
use Rattle.sy_unread.proofs.Turns.{sets_long, stays_same}
use Rattle.sy_unread.proofs.skipping.Skipping.keep_long.Goals as goal

pub returns-in_default-clause-turn : goal.returns-in_default-clause-turn
returns-in_default-clause-turn g c ahead buffer = stays_same _ ahead _ _ c.in_default.ensures.err

pub returns-clause-turn : goal.returns-clause-turn
returns-clause-turn g c ahead buffer =
    let count : c.args.from + 65536 - c.args.from ≡ 65536 = omega arith in
    let first : take (c.args.from + 65536 - c.args.from) (drop c.args.from c.held.result.now) ≡ take 65536 (drop c.args.from c.args.self.now.standing.held) =
    ap (λ k. take k (drop c.args.from c.held.result.now)) count ∙ ap (λ xs. take 65536 (drop c.args.from xs)) c.held.ensures in
    rw (c.set_place.ensures, c.past_long.ensures, c.set_frames.ensures, c.drop_front.ensures, c.next_number-frame.ensures)
    (sets_long c.args.self.now.standing c.args.size c.args.from _ ahead _ _ c.requires.place c.requires.long c.requires.head c.requires.all first (rw (← c.next_number-frame.ensures) c.in-Ok.ensures.ok))
