use Rattle.std.proofs.Common.{refl, sym, ◌∙◌}
use Rattle.std.proofs.lemmas.Bool.{false≢true}
use Rattle.sy_fit.proofs.Risky.{list_shown, safe_all, safe_first, safe_more}
use Rattle.sy_fit.proofs.kinds.list_risks.Goals as goal

pub loop-number-init : goal.loop-number-init
loop-number-init c = safe_first c.args.site.now c.args.class c.args.relay c.args.list c.set_at-may.result c.args.risk

pub loop-number-preserved : goal.loop-number-preserved
loop-number-preserved c =
    safe_more c.args.site.now c.args.class c.args.relay c.args.list c.set_at-may.result c.args.risk c.loop-number.from c.in-Some.number
    c.in-Some.ensures.some (λ r. false≢true (sym c.if-has_risk.false ∙ c.has_risk.ensures.1 r)) c.loop-number.invariant

pub returns-then-has_risk : goal.returns-then-has_risk
returns-then-has_risk c = (
  λ yes. list_shown c.args.site.now c.args.class c.args.relay c.args.list c.set_at-may.result c.args.risk c.loop-number.from c.in-Some.number
      c.set_at-may.ensures c.in-Some.ensures.some (c.has_risk.ensures.0 c.if-has_risk.true),
  λ h. refl,
)

pub returns : goal.returns
returns c = (
  λ no. absurd (false≢true no),
  λ h. absurd (safe_all c.args.site.now c.args.class c.args.relay c.args.list c.set_at-may.result c.args.risk c.loop-number.from
      c.set_at-may.ensures c.in_default.ensures.none c.loop-number.invariant h),
)
