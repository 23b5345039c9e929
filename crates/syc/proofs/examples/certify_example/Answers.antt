use Rattle.std.proofs.Common.{refl}
use Rattle.sy_report.specs.declared.command_line.command.Asked.TheVariants as asked
use Rattle.sy_places.proofs.Promised.{if_ok}
use Rattle.syc.proofs.ExampleEndings.{certified}
use Rattle.syc.proofs.examples.certify_example.Goals as goal

pub returns-clause-answered : goal.returns-clause-answered
returns-clause-answered g c =
    if_ok c.run_words.result c.run_words.ensures.asked (λ status said. said asked.Certify (record { words_are = refl; site_plain = refl }))

pub returns-clause-certified : goal.returns-clause-certified
returns-clause-certified g c =
    if_ok c.run_words.result c.run_words.ensures.asked (λ status said.
    certified c.one_site.ensures c.fit_is_sound.ensures status c.args.out.now c.run_words.new.out (said asked.Certify (record { words_are = refl; site_plain = refl })))

pub returns-clause-fails : goal.returns-clause-fails
returns-clause-fails g c =
    if_ok c.run_words.result c.run_words.ensures.asked_fails (λ status fails. fails asked.Certify (record { words_are = refl; site_plain = refl }))
