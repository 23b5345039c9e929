use Rattle.std.proofs.Common.{refl, sym, ◌∙◌}
use Rattle.std.proofs.lemmas.Bool.{false≢true}
use Rattle.sy_fit.specs.declared.kinds.Risk.TheVariants as risks
use Rattle.sy_fit.proofs.Risky.{last_risk}
use Rattle.sy_fit.proofs.kinds.is_risky.Goals as goal

pub returns-then-posts : goal.returns-then-posts
returns-then-posts c = (λ yes. (risks.Post, c.may_risk-posts.ensures.0 c.if-posts.true), λ h. refl)

pub returns-then-gives_up : goal.returns-then-gives_up
returns-then-gives_up c = (λ yes. (risks.GivesUp, c.may_risk-gives_up.ensures.0 c.if-gives_up.true), λ h. refl)

pub returns : goal.returns
returns c =
    last_risk c.args.site.now c.args.class c.args.input c.may_risk.result
    (λ h. false≢true (sym c.if-posts.false ∙ c.may_risk-posts.ensures.1 h))
    (λ h. false≢true (sym c.if-gives_up.false ∙ c.may_risk-gives_up.ensures.1 h))
    c.may_risk.ensures
