use Rattle.std.proofs.Common.{◌∙◌, subst}
use Rattle.sy_rules.specs.Whole.{body_at}
use Rattle.sy_rules.specs.lists.Sets.{Bits}
use Rattle.sy_rules.specs.lists.Work.{May, Must}
use Rattle.sy_flows.proofs.Firmness.{flow_is}
use Rattle.sy_flows.proofs.flows.list_flows.Goals as goal

pub returns : goal.returns
returns c =
    flow_is c.args.site.now c.args.class c.args.relay c.args.list c.flow_of-flow.result.may c.flow_of-flow.result.must c.args.firm
    (subst (λ p. Bits (May (body_at p c.args.list) c.args.class) c.flow_of-flow.result.may) (c.deref.ensures ∙ c.plan.ensures) c.flow_of-flow.ensures.may)
    (subst (λ p. Bits (Must (body_at p c.args.list) c.args.class) c.flow_of-flow.result.must) (c.deref.ensures ∙ c.plan.ensures) c.flow_of-flow.ensures.must)
    c.requires.firm
