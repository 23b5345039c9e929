use Rattle.sy_script.proofs.OneAnswer as law
use Rattle.sy_script.proofs.laws.one_answer.Goals as goal

pub returns-clause-answer : goal.returns-clause-answer
returns-clause-answer c text a b is_a is_b = law.one_answer text a b is_a is_b

pub returns-clause-memory : goal.returns-clause-memory
returns-clause-memory c text a b at_a at_b is_a is_b = law.one_of_memory text a b at_a at_b is_a is_b

pub returns-clause-large : goal.returns-clause-large
returns-clause-large c text a large first = law.large_first text a large first
