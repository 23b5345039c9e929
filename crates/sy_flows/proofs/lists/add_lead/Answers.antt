use Rattle.std.proofs.Common.{◌∙◌, arith, sym, subst, None, Some}
use Rattle.std.specs.Prelude.{OnOk}
use Rattle.std.proofs.lemmas.Option.{slice_get_within}
use Rattle.sy_flows.proofs.Led.{it_leads, lead_so, lead_there, nothing_more, one_lead}
use Rattle.sy_flows.proofs.lists.add_lead.Goals as goal

pub add-requires : goal.add-requires
add-requires c =
    let leads = it_leads c.args.site.now c.args.class c.args.from c.args.number c.requires.does c.in-Some.to (sym c.lead_of.ensures ∙ c.in-Some.is) in
    record {
      marked = c.requires.marked;
      found = c.requires.found;
      there = lead_there c.args.site.now c.is_lawful.ensures c.args.from c.args.number c.in-Some.to (sym c.lead_of.ensures ∙ c.in-Some.is);
      origin = (
        slice_get_within c.args.found.now.lists.items c.args.place c.args.from c.requires.stands,
        c.args.from,
        c.requires.stands,
        c.requires.small,
        leads,
      );
    }
