use Rattle.std.specs.Arc.{arc_value}
use Rattle.sy_replay.proofs.Refused.{input_made, list_there}
use Rattle.sy_replay.proofs.steps.hands.entry_of.Goals as goal

pub due-due-requires : goal.due-due-requires
due-due-requires c = record { exists = list_there c.args.plan.now c.args.input c.list_of-list.result c.plans_are_whole.ensures c.requires c.list_of-list.ensures }

pub returns-in-Ok-clause-made : goal.returns-in-Ok-clause-made
returns-in-Ok-clause-made c =
    input_made c.args.plan.now c.args.input c.list_of-list.result c.due-due.result c.args.tag (arc_value c.args.message) c.in-Ok.node c.list_of-list.ensures
    (rw c.deref.ensures at c.due-due.ensures) c.in-Ok.ensures.ok
