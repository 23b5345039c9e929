use Rattle.std.proofs.Common.{sym, subst}
use Rattle.sy_runtime.specs.Connections.{since}
use Rattle.sy_runtime.specs.internal.Turning.{CameIs}
use Rattle.sy_runtime.proofs.Turning.{taken_so, waited}
use Rattle.sy_runtime.proofs.connection.turns.read_and_take.Goals as goal

pub returns-in-Some-clause-kept : goal.returns-in-Some-clause-kept
returns-in-Some-clause-kept g c = λ ahead before s. waited _ ahead _ _ _ c.read_once.new.framer c.args.intake.now.batch.items c.in-Some.ensures c.requires.empty (c.in-NoMemory.ensures.kept ahead _ _ s)

pub returns-in-None-clause-kept : goal.returns-in-None-clause-kept
returns-in-None-clause-kept g c = λ ahead before s.
    subst
    (λ r. CameIs r ahead (g.S.Source.remaining c.read_once.new.source) c.take_all.new.end (since before (g.U.UnreadSink.kept c.take_all.new.sink)) c.take_all.new.framer c.take_all.new.intake.batch.items)
    (sym c.came_of.ensures) (taken_so _ ahead _ _ _ _ _ c.read_once.new.framer.left _ _ (c.in-NoMemory.ensures.kept ahead _ _ s) (λ read. c.take_all.ensures.kept read before))

pub returns-in-Read-clause-kept : goal.returns-in-Read-clause-kept
returns-in-Read-clause-kept g c = λ ahead before s.
    subst
    (λ r. CameIs r ahead (g.S.Source.remaining c.read_once.new.source) c.take_all-in-Read.new.end (since before (g.U.UnreadSink.kept c.take_all-in-Read.new.sink)) c.take_all-in-Read.new.framer c.take_all-in-Read.new.intake.batch.items)
    (sym c.came_of-in-Read.ensures) (taken_so _ ahead _ _ _ _ _ c.read_once.new.framer.left _ _ (c.in-Read.ensures.kept ahead _ _ s) (λ read. c.take_all-in-Read.ensures.kept read before))
