use Rattle.std.proofs.Common.{◌∷◌, [], refl, ap, sym, ◌∙◌}
use Rattle.sy_rules.proofs.lemmas.parameters.Defaults.{main_queue_is_clean}
use Rattle.sy_rules.proofs.lemmas.plan.Kept.{flows_of_same}
use Rattle.sy_rules.proofs.lemmas.plan.WholePass.{kept}
use Rattle.sy_rules.proofs.plan.pass.Goals as goal

pub queue_parameters-requires-clause-clean : goal.queue_parameters-requires-clause-clean
queue_parameters-requires-clause-clean c = main_queue_is_clean

pub invariant_of-result : goal.invariant_of-result
invariant_of-result c =
    kept _ c.in_ok-inputs.ensures (c.in_ok-one.ensures ∙ ap (λ q. q ∷ []) c.queue_parameters.ensures.value) c.in_ok-one-2.ensures
    (c.in_ok-one-3.ensures ∙ ap (λ a. a ∷ []) c.in_ok-pass_action.ensures) c.new.ensures.items c.in_ok-tables.ensures.tables c.in_ok-tables.ensures.occurrences c.in_ok-list_queues.ensures refl (c.in_ok-one-4.ensures ∙ ap (λ n. n ∷ []) c.in_ok-from_slice.ensures)
    (flows_of_same [] _ _ _ c.in_ok-class_flows.class_flows (sym c.new.ensures.items) c.deref.ensures.value c.in_ok-class_flows.ensures)
