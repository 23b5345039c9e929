use Rattle.std.proofs.Common.{refl}
use Rattle.sy_report.specs.declared.command_line.command.Asked.TheVariants as asked
use Rattle.sy_places.proofs.Promised.{if_ok}
use Rattle.syc.proofs.ExampleEndings.{checked}
use Rattle.syc.proofs.examples.check_example.Goals as goal

pub returns-clause-answered : goal.returns-clause-answered
returns-clause-answered g c =
    if_ok c.run_words.result c.run_words.ensures.asked (λ status said. said asked.Check (record { words_are = refl; site_plain = refl }))

pub returns-clause-accepted : goal.returns-clause-accepted
returns-clause-accepted g c =
    if_ok c.run_words.result c.run_words.ensures.asked (λ status said.
    checked c.one_site.ensures status c.args.out.now c.run_words.new.out (said asked.Check (record { words_are = refl; site_plain = refl })))

pub returns-clause-fails : goal.returns-clause-fails
returns-clause-fails g c =
    if_ok c.run_words.result c.run_words.ensures.asked_fails (λ status fails. fails asked.Check (record { words_are = refl; site_plain = refl }))
