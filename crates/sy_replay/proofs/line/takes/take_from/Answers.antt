use Rattle.std.proofs.Common.{ℕ, List, sym, subst}
use Rattle.sy_replay.specs.Lines.{IsPlace}
use Rattle.sy_replay.proofs.LineEvents.{behind_same}
use Rattle.sy_replay.proofs.line.takes.take_from.Goals as goal

pub returns-in-None-clause-err : goal.returns-in-None-clause-err
returns-in-None-clause-err c e h =
    c.in-None.ensures.none h.link h.place
    (subst (λ (ws : List (List ℕ)). IsPlace c.args.site.now ws h.link h.place) (sym (behind_same h.whole)) h.is_place)
