use Rattle.std.proofs.Common.{◌∙◌, ap, length, sym}
use Rattle.std.proofs.lemmas.List.{length-map, length-replicate}
use Rattle.sy_rules.specs.PlanValue.{Plan}
use Rattle.sy_board.specs.relay.Boards.{BoardState}
use Rattle.sy_replay.specs.internal.Parts.{Tags}
use Rattle.sy_replay.proofs.part.Part.new.Goals as goal

pub invariant_of-result : goal.invariant_of-result
invariant_of-result c =
    sym (length-map c.in_ok-passed.passed.items (λ (q : Tags). q.items)) ∙ ap length c.in_ok-passed.ensures ∙ length-replicate _ _ ∙ ap length c.actions.ensures
    ∙ ap (λ (p : Plan). length p.actions) c.deref.ensures ∙ sym (ap (λ (b : BoardState). length b.plan.actions) c.in_ok-board.ensures)
