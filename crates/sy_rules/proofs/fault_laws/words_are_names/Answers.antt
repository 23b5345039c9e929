use Rattle.sy_rules.proofs.lemmas.parameters.ParameterFaultLaws.{word_is_a_name}
use Rattle.sy_rules.proofs.fault_laws.words_are_names.Goals as goal

pub returns : goal.returns
returns c = word_is_a_name
