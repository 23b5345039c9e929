use Rattle.std.proofs.Common.{length, map, ap, arith}
use Rattle.sy_rules.specs.items.ItemViews.{item}
use Rattle.sy_rules.proofs.lemmas.check.CleanItems.{are_clean, few_rulesets, few_actions, queues_of_both}
use Rattle.sy_rules.proofs.plan.gathered.gather.Goals as goal

pub rulesets-requires : goal.rulesets-requires
rulesets-requires c = record { clean = are_clean (map item c.args.items.now) c.requires.clean }

pub actions-requires : goal.actions-requires
actions-requires c = record { clean = are_clean (map item c.args.items.now) c.requires.clean }

pub queues-requires : goal.queues-requires
queues-requires c = record { clean = are_clean (map item c.args.items.now) c.requires.clean }

pub workers-requires : goal.workers-requires
workers-requires c =
    let all = map item c.args.items.now in
    record { few = omega (arith, ap length c.as_slice.ensures.value, ap length c.in_ok-queues.ensures.ok, queues_of_both all, few_rulesets all c.requires.clean, few_actions all c.requires.clean) }

pub list_queues-requires : goal.list_queues-requires
list_queues-requires c =
    let all = map item c.args.items.now in
    record { few = omega (arith, queues_of_both all, few_rulesets all c.requires.clean, few_actions all c.requires.clean) }

pub inputs-requires-clause-clean : goal.inputs-requires-clause-clean
inputs-requires-clause-clean c = are_clean (map item c.args.items.now) c.requires.clean

pub inputs-requires-clause-few : goal.inputs-requires-clause-few
inputs-requires-clause-few c =
    let all = map item c.args.items.now in
    omega (arith, few_rulesets all c.requires.clean, ap length c.in_ok-rulesets.ensures.ok)
