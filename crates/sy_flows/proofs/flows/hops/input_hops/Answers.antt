use Rattle.std.proofs.Common.{◌∙◌, ◌==◌, ap, sym}
use Rattle.std.specs.List.{list_any}
use Rattle.std.proofs.lemmas.Bool.{false≢true}
use Rattle.sy_rules.specs.declared.parts.Input.{Input}
use Rattle.sy_flows.proofs.flows.hops.input_hops.Goals as goal

pub returns-then-not-is_input_list : goal.returns-then-not-is_input_list
returns-then-not-is_input_list c = λ is.
    absurd (false≢true (sym c.if-not-is_input_list.true ∙ c.is_input_list.ensures
    ∙ ap (list_any (λ (i : Input). i.list == c.args.list)) (c.inputs.ensures ∙ ap (λ p. p.inputs) (c.deref.ensures ∙ c.plan.ensures)) ∙ is))
