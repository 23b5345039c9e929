use Rattle.std.proofs.Common.{◌∙◌, subst}
use Rattle.sy_board.specs.relay.Plans.{IsDue}
use Rattle.sy_runtime.proofs.Taken.{of_input}
use Rattle.sy_runtime.proofs.connection.taking.follow_input.Goals as goal

pub returns-clause-made : goal.returns-clause-made
returns-clause-made c = of_input c.args.plan.now c.args.input c.args.node.now c.follow.new.self c.list_of-list.result c.due-due.result c.follow.ensures c.list_of-list.ensures.list
    (subst (λ m. IsDue c.args.plan.now c.list_of-list.result m c.due-due.result) (c.deref.ensures ∙ c.message.ensures.value) c.due-due.ensures)
