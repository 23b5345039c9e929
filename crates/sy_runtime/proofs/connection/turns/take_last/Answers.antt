use Rattle.sy_runtime.proofs.Turning.{goes_on, over, taken_last}
use Rattle.sy_runtime.proofs.connection.turns.take_last.Goals as goal

pub returns-in-Some-clause-kept : goal.returns-in-Some-clause-kept
returns-in-Some-clause-kept g c = λ ahead ahead' before s at_end. over ahead ahead' _ _ _ _ c.args.framer.now.left c.take_all.new.framer c.take_all.new.intake.batch.items _ s (λ read. c.in-Some.ensures.kept read before)

pub returns-in-None-clause-kept : goal.returns-in-None-clause-kept
returns-in-None-clause-kept g c = λ ahead ahead' before s at_end.
    taken_last ahead ahead' _ _ c.end_of.new.framer c.take_all.new.intake.batch.items _ c.in-None.ensures.on.1
    (λ failed failed'. c.end_of.ensures ahead ahead' failed failed' _ _ (goes_on ahead ahead' _ _ _ _ c.args.framer.now.left c.take_all.new.framer c.take_all.new.intake.batch.items s (λ read. c.in-None.ensures.kept read before)) at_end)
