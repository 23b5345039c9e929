use Rattle.std.proofs.Common.{◌≡◌, true, refl, subst, sym, ◌∙◌}
use Rattle.std.proofs.lemmas.Bool.{false≢true}
use Rattle.sy_site.specs.Sites.{plan_at}
use Rattle.sy_site.specs.machine.Reach.{list_of}
use Rattle.sy_flows.specs.Flows.{is_used}
use Rattle.sy_fit.specs.internal.Risks.{ListRisks}
use Rattle.sy_fit.proofs.Risky.{own_shown, posted_shown}
use Rattle.sy_flows.proofs.Used.{input_list, input_used}
use Rattle.sy_fit.proofs.kinds.may_risk.Goals as goal

pub list_risks-requires-clause-used : goal.list_risks-requires-clause-used
list_risks-requires-clause-used c =
    subst (λ l. is_used (plan_at c.args.site.now c.args.input.relay) l ≡ true) (sym c.list_at-own.ensures.list)
    (input_used (plan_at c.args.site.now c.args.input.relay) (list_of c.args.site.now c.args.input)
    (input_list c.args.site.now c.args.input c.requires.there))

pub returns-then-list_risks : goal.returns-then-list_risks
returns-then-list_risks c = (
  λ yes. own_shown c.args.site.now c.args.class c.args.input c.args.risk
      (subst (λ l. ListRisks c.args.site.now c.args.class c.args.input.relay l c.args.risk) c.list_at-own.ensures.list
      (c.list_risks.ensures.0 c.if-list_risks.true)),
  λ h. refl,
)

pub returns : goal.returns
returns c =
    posted_shown c.args.site.now c.args.class c.args.input c.args.risk c.posted_risks.result
    (λ r. false≢true (sym c.if-list_risks.false ∙ c.list_risks.ensures.1
    (subst (λ l. ListRisks c.args.site.now c.args.class c.args.input.relay l c.args.risk) (sym c.list_at-own.ensures.list) r)))
    c.posted_risks.ensures
