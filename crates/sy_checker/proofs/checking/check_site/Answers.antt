use Rattle.sy_checker.proofs.Certified.{memory_alone}
use Rattle.sy_checker.proofs.checking.check_site.Goals as goal

pub returns-in-Ok-clause-confined : goal.returns-in-Ok-clause-confined
returns-in-Ok-clause-confined c = c.claims_of_sound_sites.ensures.confined c.args.site.now c.in-Ok.ensures.sound

pub returns-in-Ok-clause-falling : goal.returns-in-Ok-clause-falling
returns-in-Ok-clause-falling c = c.claims_of_sound_sites.ensures.falling c.args.site.now c.in-Ok.ensures.sound

pub returns-in-Ok-clause-written : goal.returns-in-Ok-clause-written
returns-in-Ok-clause-written c = c.claims_of_sound_sites.ensures.written c.args.site.now c.is_lawful.ensures c.in-Ok.ensures.sound

pub returns-in-Ok-clause-safe : goal.returns-in-Ok-clause-safe
returns-in-Ok-clause-safe c = c.sound_sites_are_safe.ensures c.args.site.now c.is_lawful.ensures c.in-Ok.ensures.sound

pub returns-in-Err-clause-only : goal.returns-in-Err-clause-only
returns-in-Err-clause-only c = memory_alone c.args.site.now c.sound_sites_have_no_finding.ensures c.in-Err.why c.in-Err.ensures.err
