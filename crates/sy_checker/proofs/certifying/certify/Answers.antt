use Rattle.sy_checker.proofs.Certified.{memory_alone}
use Rattle.sy_checker.proofs.certifying.certify.Goals as goal

pub returns-in-Err-clause-only : goal.returns-in-Err-clause-only
returns-in-Err-clause-only c = memory_alone c.args.site.now c.sound_sites_have_no_finding.ensures c.in-Err.why c.in-Err.ensures.err

pub returns-in-Ok-clause-sound : goal.returns-in-Ok-clause-sound
returns-in-Ok-clause-sound c = c.fit_is_sound.ensures c.args.site.now c.in-Ok.certificate.rows c.in-Ok.ensures.ok.rows
