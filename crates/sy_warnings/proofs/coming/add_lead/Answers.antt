use Rattle.std.proofs.Common.{◌≡◌, Some, subst}
use Rattle.sy_warnings.specs.Following.{onward}
use Rattle.sy_warnings.specs.internal.Following.{IsLead}
use Rattle.sy_warnings.proofs.Arriving.{leads_there}
use Rattle.sy_warnings.proofs.coming.add_lead.Goals as goal

pub add-requires : goal.add-requires
add-requires c =
    let leads = subst (IsLead c.args.site.now c.args.class c.args.by c.args.from c.args.number) c.in-Some.is c.lead_of.ensures in
    record {
      found = c.requires.found;
      there = leads_there c.args.site.now c.is_lawful.ensures c.args.class c.args.by c.args.from c.args.number c.in-Some.to leads;
      comes = onward c.args.from c.in-Some.to c.args.number c.requires.comes leads;
    }

pub returns-in-None-clause-led : goal.returns-in-None-clause-led
returns-in-None-clause-led c = λ to leads.
    absurd (subst (IsLead c.args.site.now c.args.class c.args.by c.args.from c.args.number) c.in-None.is c.lead_of.ensures to leads)
