use Rattle.sy_commands.proofs.check.question.say_text.Goals as goal

pub returns-in-Check-clause-verdict : goal.returns-in-Check-clause-verdict
returns-in-Check-clause-verdict c = rw c.in-Check.is c.check_with_warnings.ensures.verdict

pub returns-in-Certify-clause-verdict : goal.returns-in-Certify-clause-verdict
returns-in-Certify-clause-verdict c = rw c.in-Certify.is c.said_of_certify.ensures.verdict

pub returns-in-Check-clause-words : goal.returns-in-Check-clause-words
returns-in-Check-clause-words c = rw c.in-Check.is c.check_with_warnings.ensures.words

pub returns-in-Certify-clause-words : goal.returns-in-Certify-clause-words
returns-in-Certify-clause-words c = rw c.in-Certify.is c.said_of_certify.ensures.words
