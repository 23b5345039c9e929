use Rattle.std.proofs.Common.{◌≡◌, false, true, ◌∙◌, ap, refl, sym}
use Rattle.std.specs.List.{list_any}
use Rattle.std.proofs.lemmas.Bool.{false≢true}
use Rattle.sy_board.specs.relay.Plans.{parameters_at}
use Rattle.sy_site.specs.Sites.{plan_at}
use Rattle.sy_fit.specs.internal.Risks.{is_free}
use Rattle.sy_fit.proofs.Feeding.{fed_by_inputs, fed_by_post, free_input, posts_as}
use Rattle.sy_fit.proofs.kinds.is_fed_freely.Goals as goal

pub returns-then-has_free_input : goal.returns-then-has_free_input
returns-then-has_free_input c = (
  λ yes. free_input c.args.site.now c.args.relay c.args.queue
      (ap (list_any (is_free c.args.queue)) (sym (c.inputs.ensures ∙ ap (λ p. p.inputs) (c.deref.ensures ∙ c.plan-plan.ensures)))
      ∙ sym c.has_free_input.ensures ∙ c.if-has_free_input.true),
  λ h. refl,
)

pub returns-then-parameters_at : goal.returns-then-parameters_at
returns-then-parameters_at c =
    let on : (parameters_at (plan_at c.args.site.now c.args.relay) c.args.queue).waits ≡ true =
    ap (λ p. p.waits) (sym c.parameters_at.ensures) ∙ c.if-parameters_at.true in
    let none : list_any (is_free c.args.queue) (plan_at c.args.site.now c.args.relay).inputs ≡ false =
    ap (list_any (is_free c.args.queue)) (sym (c.inputs.ensures ∙ ap (λ p. p.inputs) (c.deref.ensures ∙ c.plan-plan.ensures)))
    ∙ sym c.has_free_input.ensures ∙ c.if-has_free_input.false in
    (λ no. absurd (false≢true no), λ f. absurd (fed_by_inputs c.args.site.now c.args.relay c.args.queue on none f))

pub returns : goal.returns
returns c =
    let off : (parameters_at (plan_at c.args.site.now c.args.relay) c.args.queue).waits ≡ false =
    ap (λ p. p.waits) (sym c.parameters_at.ensures) ∙ c.if-parameters_at.false in
    let none : list_any (is_free c.args.queue) (plan_at c.args.site.now c.args.relay).inputs ≡ false =
    ap (list_any (is_free c.args.queue)) (sym (c.inputs.ensures ∙ ap (λ p. p.inputs) (c.deref.ensures ∙ c.plan-plan.ensures)))
    ∙ sym c.has_free_input.ensures ∙ c.if-has_free_input.false in
    fed_by_post c.args.site.now c.args.relay c.args.queue off none c.has_post.result
    (posts_as c.deref-2.result.now (plan_at c.args.site.now c.args.relay) c.args.queue c.has_post.result (c.deref-2.ensures ∙ c.plan-plan.ensures)
    c.has_post.ensures)
