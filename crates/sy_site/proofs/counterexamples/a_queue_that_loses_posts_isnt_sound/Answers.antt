use Rattle.std.proofs.Common.{refl, arith, inl, inr}
use Rattle.sy_wire.specs.declared.class.Class.{Class}
use Rattle.sy_rules.specs.declared.parameters.settings.QueueParameters.{QueueParameters}
use Rattle.sy_rules.specs.lists.Body.{Body}
use Rattle.sy_rules.proofs.lemmas.lists.WorkLaws.{work_may}
use Rattle.sy_board.specs.relay.Kinds.{MayLose}
use Rattle.sy_board.specs.relay.Plans.{post_flow}
use Rattle.sy_board.specs.relay.Spares.{own}
use Rattle.sy_site.specs.machine.Counterexamples.{discarding_queue, leaking_plan, leaking_site, unmarked_queue}
use Rattle.sy_site.specs.machine.Examples.{edge_input, example_message}
use Rattle.sy_site.specs.machine.Findings.{Kind}
use Rattle.sy_site.specs.machine.Reach.{entry}
use Rattle.sy_site.specs.machine.Soundness.{IsSoundFor}
use Rattle.sy_site.proofs.counterexamples.a_queue_that_loses_posts_isnt_sound.Goals as goal

loses_there : (queue : QueueParameters) (class : Class) → MayLose (leaking_plan queue) class 2 (post_flow (leaking_plan queue) 2)
    → IsSoundFor (leaking_site queue) class → ⊥
loses_there queue class loses sound =
    let may = work_may (Body.Post 2 (Body.Post 2 Body.End)) (example_message class) class 0 refl refl in
    sound.clean edge_input (entry (0, omega arith, refl)) Kind.InnerQueue
    (record { list = 1; follows = own; number = 0; to = 2; does = record { may = may; found = refl; in_scope = refl }; loses = loses })

pub returns-clause-without_a_mark : goal.returns-clause-without_a_mark
returns-clause-without_a_mark c class = loses_there unmarked_queue class (inr (inl refl))

pub returns-clause-discarding : goal.returns-clause-discarding
returns-clause-discarding c class =
    loses_there discarding_queue class (inr (inr (inr (record { severe = omega arith; on = omega arith; reached = inr (omega arith) }))))
