use Rattle.std.proofs.Common.{refl}
use Rattle.sy_places.proofs.Promised.{if_ok}
use Rattle.syc.proofs.ExampleEndings.{verified}
use Rattle.syc.proofs.examples.verify_example.Goals as goal

pub returns-clause-answered : goal.returns-clause-answered
returns-clause-answered g c =
    if_ok c.run_words.result c.run_words.ensures.verify (λ status said. said (record { words_are = refl; site_plain = refl; certificate_plain = refl }))

pub returns-clause-accepted : goal.returns-clause-accepted
returns-clause-accepted g c =
    if_ok c.run_words.result c.run_words.ensures.verify (λ status said zero.
    (verified c.one_site.ensures status c.args.out.now c.run_words.new.out (said (record { words_are = refl; site_plain = refl; certificate_plain = refl })) zero).0)

pub returns-clause-verified : goal.returns-clause-verified
returns-clause-verified g c =
    if_ok c.run_words.result c.run_words.ensures.verify (λ status said zero.
    (verified c.one_site.ensures status c.args.out.now c.run_words.new.out (said (record { words_are = refl; site_plain = refl; certificate_plain = refl })) zero).1)

pub returns-clause-fails : goal.returns-clause-fails
returns-clause-fails g c =
    if_ok c.run_words.result c.run_words.ensures.verify_fails (λ status fails. fails (record { words_are = refl; site_plain = refl; certificate_plain = refl }))
