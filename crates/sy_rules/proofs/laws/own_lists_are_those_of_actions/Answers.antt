use Rattle.sy_rules.proofs.lemmas.parts.QueueLaws.{own_of_action, owner_of_list}
use Rattle.sy_rules.proofs.laws.own_lists_are_those_of_actions.Goals as goal

pub returns-clause-own : goal.returns-clause-own
returns-clause-own c = own_of_action

pub returns-clause-others : goal.returns-clause-others
returns-clause-others c script plan list number is e =
    let owner = owner_of_list script plan list number is e in (owner.action, owner.found, owner.has, owner.is)
