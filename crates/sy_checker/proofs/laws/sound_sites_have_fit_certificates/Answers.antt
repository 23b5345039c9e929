use Rattle.std.proofs.Common.{refl}
use Rattle.sy_checker.proofs.Fitting.{sound_has_fit}
use Rattle.sy_checker.proofs.laws.sound_sites_have_fit_certificates.Goals as goal

pub returns-clause-rows : goal.returns-clause-rows
returns-clause-rows c = sound_has_fit

pub returns-clause-certificate : goal.returns-clause-certificate
returns-clause-certificate c = λ site law sound.
    let fit = sound_has_fit site law sound in
    (record { version = site.policy; rows = fit.0 }, record { version = refl; rows = fit.1 })
