use Rattle.sy_flows.specs.Flows.{AreEach}
use Rattle.sy_flows.specs.Leads.{IsLeadOf}
use Rattle.sy_flows.proofs.lists.leads.leads_of.Given as goal

abbrev pub invariant-loop-entry : goal.invariant-loop-entry
invariant-loop-entry l = AreEach (IsLeadOf l.site l.class) l.entry-index l.leads.items
