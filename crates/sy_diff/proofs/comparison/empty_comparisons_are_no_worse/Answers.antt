use Rattle.sy_diff.proofs.NoWorse.{no_worse, stays_sound}
use Rattle.sy_diff.proofs.comparison.empty_comparisons_are_no_worse.Goals as goal

pub returns-clause-no_worse : goal.returns-clause-no_worse
returns-clause-no_worse c = λ change it is empty. no_worse change it is empty

pub returns-clause-sound : goal.returns-clause-sound
returns-clause-sound c = λ change lawful is sound. stays_sound change lawful c.sound_sites_have_no_finding.ensures is sound
