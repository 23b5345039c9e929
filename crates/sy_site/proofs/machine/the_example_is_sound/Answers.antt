use Rattle.sy_site.proofs.machine.ExampleClean.{edge_clean, hub_clean}
use Rattle.sy_site.proofs.machine.ExampleSound.{auth_is_protected, sound_for}
use Rattle.sy_site.proofs.machine.ExampleWhole.{example_is_lawful}
use Rattle.sy_site.proofs.machine.the_example_is_sound.Goals as goal

pub returns-clause-lawful : goal.returns-clause-lawful
returns-clause-lawful c = example_is_lawful

pub returns-clause-sound : goal.returns-clause-sound
returns-clause-sound c class protected = sound_for class (edge_clean class) (hub_clean class)

pub returns-clause-protects : goal.returns-clause-protects
returns-clause-protects c = auth_is_protected
