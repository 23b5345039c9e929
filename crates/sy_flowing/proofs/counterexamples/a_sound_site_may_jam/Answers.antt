use Rattle.sy_flowing.proofs.examples.JamSound.{round_flows_not, round_is_jam, jam_flows_not, jam_is_jam, jam_is_lawful, jam_is_sound}
use Rattle.sy_flowing.proofs.counterexamples.a_sound_site_may_jam.Goals as goal

pub returns-clause-lawful : goal.returns-clause-lawful
returns-clause-lawful c = jam_is_lawful

pub returns-clause-sound : goal.returns-clause-sound
returns-clause-sound c = jam_is_sound

pub returns-clause-jam : goal.returns-clause-jam
returns-clause-jam c = jam_is_jam

pub returns-clause-flows_not : goal.returns-clause-flows_not
returns-clause-flows_not c = jam_flows_not

pub returns-clause-round : goal.returns-clause-round
returns-clause-round c = round_is_jam

pub returns-clause-round_flows_not : goal.returns-clause-round_flows_not
returns-clause-round_flows_not c = round_flows_not
