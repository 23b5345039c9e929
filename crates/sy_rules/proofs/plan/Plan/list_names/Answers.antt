use Rattle.std.proofs.Common.{length, ap, ◌∙◌}
use Rattle.sy_rules.proofs.plan.Plan.list_names.Goals as goal

pub returns-clause-lists : goal.returns-clause-lists
returns-clause-lists c =
    ap length c.as_slice.ensures.value ∙ (c.self.invariant.whole.list_names ∙ ap (λ v. length v.lists) c.self.view_is)
