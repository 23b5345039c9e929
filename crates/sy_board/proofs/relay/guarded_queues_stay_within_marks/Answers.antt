use Rattle.std.proofs.Common.{refl, inl, inr}
use Rattle.sy_rules.specs.Whole.{queue_for}
use Rattle.sy_board.specs.relay.Plans.{queue_of_input}
use Rattle.sy_board.proofs.relay.guarded_queues_stay_within_marks.Goals as goal

pub returns-clause-inputs : goal.returns-clause-inputs
returns-clause-inputs c plan guard state within input class pair only = within input class pair (queue_of_input plan input) (inl refl) only

pub returns-clause-posts : goal.returns-clause-posts
returns-clause-posts c plan guard state within input class pair list number to follows does only =
    within input class pair (queue_for plan to)
    (inr (to, record { from = list; follows = follows; number = number; does = does; into = refl }))
    only
