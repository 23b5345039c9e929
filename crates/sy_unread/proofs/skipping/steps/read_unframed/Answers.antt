use Rattle.std.proofs.Common.{refl}
use Rattle.sy_unread.proofs.Turns.{held_none, reads_unframed, stays}
use Rattle.sy_unread.proofs.skipping.steps.read_unframed.Goals as goal

pub returns-in-Ok-clause-turn : goal.returns-in-Ok-clause-turn
returns-in-Ok-clause-turn g c kept =
    (c.in-Ok.ensures.within, reads_unframed _ c.in-Ok.count c.read_front.new.buffer _ _ c.requires.at c.in-Ok.ensures.read, refl, λ none. (c.in-Ok.ensures.read.at_end none, held_none _ _ c.requires.at))

pub returns-in-Err-clause-turn : goal.returns-in-Err-clause-turn
returns-in-Err-clause-turn g c kept = stays _ _ _ kept c.in-Err.ensures.kept
