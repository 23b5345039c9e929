use Rattle.std.proofs.Common.{ap, sym, ◌∙◌}
use Rattle.sy_select.specs.Properties.{known, says}
use Rattle.sy_select.specs.internal.Walk.{holds, verdict}
use Rattle.sy_select.proofs.Verdicts.{truth_is}
use Rattle.sy_rules.proofs.lemmas.lists.ClassVerdicts.{met_for_class, unmet_for_class}
use Rattle.sy_rules.proofs.lists.condition.Condition.is_met.Goals as goal

pub returns-in-Yes : goal.returns-in-Yes
returns-in-Yes c =
    met_for_class c.args.self.now c.args.message.now c.verdict.result
    (c.verdict.ensures ∙ ap (λ class. verdict (known class) c.args.self.now) c.class.ensures) c.in-Yes.is

pub returns-in-No : goal.returns-in-No
returns-in-No c =
    unmet_for_class c.args.self.now c.args.message.now c.verdict.result
    (c.verdict.ensures ∙ ap (λ class. verdict (known class) c.args.self.now) c.class.ensures) c.in-No.is

pub returns-in-Either : goal.returns-in-Either
returns-in-Either c =
    let said = says c.args.message.now in
    c.eval.ensures ∙ sym (truth_is said c.self.inside.expr) ∙ ap (holds said) c.self.view_is
