-- A step keeps the places of a relay.
use Rattle.std.proofs.Common.{ℕ, List, sym, subst, ◌∙◌, ◌++◌, ◌∷◌, []}
use Rattle.sy_rules.specs.declared.lists.occurrence.Occurrence.{Occurrence}
use Rattle.sy_rules.specs.Whole.{queue_for}
use Rattle.sy_rules.specs.PlanValue.{Plan}
use Rattle.sy_board.specs.relay.Cells.{Cell, IsShaped, RelayState, at, set_cell, hand}
use Rattle.sy_board.specs.relay.Steps.{Event, Step, Out, Job, advanced, still}
use Rattle.sy_board.proofs.relay.SetCells.{SameSizes, set_sizes, set_failures_sizes, same_sizes, both_sizes, if_elim}

advanced_sizes : (plan : Plan) (old : RelayState) (w : ℕ) (o : Occurrence) (job : Job plan old w o) → SameSizes (advanced plan old w o job) old
advanced_sizes plan old w o job =
    let moved = set_cell old (Cell.Worker w) (still job.entry job.left job.others) in
    both_sizes _ moved _ (set_failures_sizes moved w 0) (set_sizes old (Cell.Worker w) (still job.entry job.left job.others))

pub sizes_step : (plan : Plan) (old : RelayState) (e : Event) (new : RelayState) (outs : List Out) → Step plan old e new outs → SameSizes new old
sizes_step plan old (Event.Take i h node) new outs (lost, takes, is) =
    subst (λ x. SameSizes x old) (sym takes.after)
    (if_elim (λ x. SameSizes x old) lost old (set_cell old (hand i h) (node ∷ [])) (λ t. same_sizes old) (λ t. set_sizes old (hand i h) _))
sizes_step plan old (Event.Enter i h) new outs (node, enters, is) =
    subst (λ x. SameSizes x old) (sym enters.after)
    (both_sizes _ (set_cell old (hand i h) []) _ (set_sizes (set_cell old (hand i h) []) (Cell.Queue _) _) (set_sizes old (hand i h) []))
sizes_step plan old (Event.Expire i h) new outs (node, expires, is) = subst (λ x. SameSizes x old) (sym expires.after) (set_sizes old (hand i h) [])
sizes_step plan old (Event.Grab w) new outs (lost, grabs, is) =
    subst (λ x. SameSizes x old) (sym grabs.after)
    (both_sizes _ (set_cell old (Cell.Queue _) _) _ (set_sizes (set_cell old (Cell.Queue _) _) (Cell.Worker w) _) (set_sizes old (Cell.Queue _) _))
sizes_step plan old (Event.Done w) new outs (a, e, does, is) = subst (λ x. SameSizes x old) (sym does.after) (advanced_sizes plan old w _ does.job)
sizes_step plan old (Event.Fail w took) new outs (a, e, fails, is) = subst (λ x. SameSizes x old) (sym fails.after) (set_failures_sizes old w _)
sizes_step plan old (Event.GiveUp w took) new outs (a, e, gives, is) = subst (λ x. SameSizes x old) (sym gives.after) (advanced_sizes plan old w _ gives.job)
sizes_step plan old (Event.Post w) new outs (l, node, lost, posts, is) =
    let b = advanced_sizes plan old w _ posts.job in
    subst (λ x. SameSizes x old) (sym posts.after)
    (if_elim (λ x. SameSizes x old) lost _
    (set_cell (advanced plan old w _ posts.job) (Cell.Queue (queue_for plan l)) (at old (Cell.Queue (queue_for plan l)) ++ node ∷ []))
    (λ t. b) (λ t. both_sizes _ (advanced plan old w _ posts.job) _ (set_sizes (advanced plan old w _ posts.job) (Cell.Queue (queue_for plan l)) _) b))
sizes_step plan old (Event.PostLost w no_memory) new outs (l, e, loses, is) = subst (λ x. SameSizes x old) (sym loses.after) (advanced_sizes plan old w _ loses.job)

pub shape_step : (plan : Plan) (old : RelayState) (e : Event) (new : RelayState) (outs : List Out) → IsShaped plan old → Step plan old e new outs → IsShaped plan new
shape_step plan old e new outs s step =
    let z = sizes_step plan old e new outs step in
    record { hands = z.hands ∙ s.hands; queues = z.queues ∙ s.queues; workers = z.workers ∙ s.workers; failures = z.failures ∙ s.failures }
