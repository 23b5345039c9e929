use Rattle.std.proofs.Common.{subst, sym}
use Rattle.sy_flows.specs.Leads.{IsThere}
use Rattle.sy_flows.proofs.Led.{list_there}
use Rattle.sy_flows.proofs.lists.leads.list_of.Goals as goal

pub returns-clause-there : goal.returns-clause-there
returns-clause-there c =
    subst (λ list. IsThere c.args.site.now (record { relay = c.args.input.relay; list = list })) (sym c.list_at-list.ensures.list)
    (list_there c.args.site.now c.is_lawful.ensures c.args.input c.requires.there)
