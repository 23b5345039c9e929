use Rattle.sy_rules.proofs.lemmas.lists.CallLaws.{chain_of, deep_by}
use Rattle.sy_rules.proofs.laws.calls_too_deep_are_a_chain.Goals as goal

pub returns-clause-chain : goal.returns-clause-chain
returns-clause-chain c = chain_of

pub returns-clause-deep : goal.returns-clause-deep
returns-clause-deep c = deep_by
