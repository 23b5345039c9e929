use Rattle.std.proofs.Common.{refl}
use Rattle.sy_places.proofs.Promised.{if_ok}
use Rattle.syc.proofs.ExampleEndings.{replayed}
use Rattle.syc.proofs.examples.replay_example.Goals as goal

pub returns-clause-answered : goal.returns-clause-answered
returns-clause-answered g c =
    if_ok c.run_words.result c.run_words.ensures.replay (λ status said. said (record { words_are = refl; site_plain = refl; events_plain = refl }))

pub returns-clause-replayed : goal.returns-clause-replayed
returns-clause-replayed g c =
    if_ok c.run_words.result c.run_words.ensures.replay (λ status said.
    replayed c.one_site.ensures status c.args.out.now c.run_words.new.out (said (record { words_are = refl; site_plain = refl; events_plain = refl })))

pub returns-clause-fails : goal.returns-clause-fails
returns-clause-fails g c =
    if_ok c.run_words.result c.run_words.ensures.replay_fails (λ status fails. fails (record { words_are = refl; site_plain = refl; events_plain = refl }))
