use Rattle.sy_commands.proofs.Said.{fit_in_words, fit_said, found_in_words, found_said}
use Rattle.sy_commands.proofs.check.question.certify_explained.Goals as goal

pub returns-in-Ok-clause-verdict : goal.returns-in-Ok-clause-verdict
returns-in-Ok-clause-verdict c =
    fit_said c.args.site.now c.in-Ok.certificate c.say_fit.result c.in-Ok.ensures.fit c.say_fit.ensures.text c.say_fit.ensures.accepted

pub returns-in-Err-clause-verdict : goal.returns-in-Err-clause-verdict
returns-in-Err-clause-verdict c = found_said c.args.site.now c.say_found_explained.result c.say_found_explained.ensures.ok

pub returns-in-Ok-clause-words : goal.returns-in-Ok-clause-words
returns-in-Ok-clause-words c =
    fit_in_words c.args.site.now c.in-Ok.certificate c.say_fit.result c.in-Ok.ensures.fit c.say_fit.ensures.text c.say_fit.ensures.accepted

pub returns-in-Err-clause-words : goal.returns-in-Err-clause-words
returns-in-Err-clause-words c = found_in_words c.args.site.now c.say_found_explained.result c.say_found_explained.ensures.ok
