use Rattle.std.proofs.Common.{◌∙◌, sym}
use Rattle.std.specs.Prelude.{slice_get}
use Rattle.sy_site.specs.Sites.{plan_at}
use Rattle.sy_flows.proofs.There.{target_there}
use Rattle.sy_flows.proofs.lists.leads.target_list.Goals as goal

pub list_of-requires : goal.list_of-requires
list_of-requires c = record {
  there = target_there c.args.site.now (slice_get (plan_at c.args.site.now c.args.relay).actions c.args.action) c.in-Some.input
      (sym c.target.ensures ∙ c.in-Some.is);
}
