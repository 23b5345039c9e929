use Rattle.std.proofs.Common.{rules}
use Rattle.sy_runtime.proofs.connection.taking.take.Goals as goal

pub returns-in-Ok-InHand-clause-message : goal.returns-in-Ok-InHand-clause-message
returns-in-Ok-InHand-clause-message c =
    (c.in-Ok-InHand.field-0, c.follow_input.new.node, search rules, search rules, c.in-Ok-InHand.ensures.ok)

pub returns-in-Ok-Discarded-clause-message : goal.returns-in-Ok-Discarded-clause-message
returns-in-Ok-Discarded-clause-message c =
    (c.in-Ok-Discarded.field-0, c.follow_input.new.node, search rules, search rules, c.in-Ok-Discarded.ensures.ok)
