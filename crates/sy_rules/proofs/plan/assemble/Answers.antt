use Rattle.std.proofs.Common.{length, ap, ◌∙◌, subst, arith}
use Rattle.sy_rules.specs.internal.Loading.{IsGathered}
use Rattle.sy_rules.specs.items.Outline.{items}
use Rattle.sy_rules.specs.PlanValue.{action_parts}
use Rattle.sy_rules.specs.parts.Plans.{actions_of}
use Rattle.sy_rules.proofs.lemmas.check.CleanItems.{few_rulesets, few_actions}
use Rattle.sy_rules.proofs.lemmas.plan.Kept.{flows_of_same, kept, listed_same, same_names}
use Rattle.sy_rules.proofs.lemmas.parts.WholeItems.{length-list_queues, queued_at_most}
use Rattle.sy_rules.proofs.plan.assemble.Goals as goal

pub expand_lists-requires-clause-few : goal.expand_lists-requires-clause-few
expand_lists-requires-clause-few c =
    let all = items c.args.script.now in
    let g = subst (λ x. IsGathered x c.in_ok-gathered.gathered) c.requires.items c.in_ok-gathered.ensures.ok in
    omega (arith, ap length g.list_queues, length-list_queues all, few_rulesets all c.requires.clean, few_actions all c.requires.clean, queued_at_most (actions_of all))

pub action_parts-requires : goal.action_parts-requires
action_parts-requires c =
    let all = items c.args.script.now in
    let g = subst (λ x. IsGathered x c.in_ok-gathered.gathered) c.requires.items c.in_ok-gathered.ensures.ok in
    record { few = omega (arith, ap length g.actions, few_actions all c.requires.clean) }

pub overflow_cast-rulesets : goal.overflow_cast-rulesets
overflow_cast-rulesets c =
    let all = items c.args.script.now in
    let g = subst (λ x. IsGathered x c.in_ok-gathered.gathered) c.requires.items c.in_ok-gathered.ensures.ok in
    omega (arith, c.len-rulesets.ensures, ap length g.rulesets, few_rulesets all c.requires.clean)

pub invariant_of-result : goal.invariant_of-result
invariant_of-result c =
    let g = subst (λ x. IsGathered x c.in_ok-gathered.gathered) c.requires.items c.in_ok-gathered.ensures.ok in
    let found = c.in_ok-lists.ensures.found in
    kept c.args.script.now _
    (record {
      inputs = g.inputs;
      queues = g.queues;
      workers = g.workers;
      actions = c.in_ok-actions.ensures.ok ∙ ap (action_parts 0) g.actions;
      rulesets = omega (arith, c.len-rulesets.ensures, ap length g.rulesets);
      names = c.in_ok-names.ensures.ok ∙ same_names _ _ _ _ (c.as_slice.ensures.value ∙ g.rulesets) (c.as_slice-2.ensures.value ∙ g.actions);
      own_queues = g.list_queues;
      tests = g.tests;
      lines = found.lines;
      tables = found.tables;
      occurrences = found.occurrences ∙ listed_same c.args.script.now c.in_ok-gathered.gathered.tests.items _ _ g.list_queues;
      class_flows = flows_of_same _ _ _ _ c.in-Ok.class_flows c.as_slice-4.ensures.value c.as_slice-3.ensures.value c.in-Ok.ensures;
    }) c.requires.clean c.requires.workers
