use Rattle.sy_fit.proofs.FitIsSound.{fit_is_sound}
use Rattle.sy_fit.proofs.laws.fit_is_sound.Goals as goal

pub returns : goal.returns
returns c = fit_is_sound
