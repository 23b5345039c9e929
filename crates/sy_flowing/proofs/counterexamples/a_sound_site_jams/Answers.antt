use Rattle.sy_flowing.proofs.examples.JamRun.{jammed}
use Rattle.sy_flowing.proofs.counterexamples.a_sound_site_jams.Goals as goal

pub returns : goal.returns
returns c = jammed
