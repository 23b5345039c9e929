use Rattle.sy_script.proofs.OneAnswer as law
use Rattle.sy_script.proofs.laws.a_script_or_a_fault.Goals as goal

pub returns : goal.returns
returns c text = law.some_answer text
