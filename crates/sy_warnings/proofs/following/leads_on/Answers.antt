use Rattle.std.proofs.Common.{◌≡◌, ◌∙◌, Some, sym}
use Rattle.std.specs.Prelude.{slice_get}
use Rattle.sy_site.specs.Sites.{plan_at}
use Rattle.sy_flows.proofs.There.{target_there}
use Rattle.sy_warnings.proofs.following.leads_on.Goals as goal

pub list_at-requires : goal.list_at-requires
list_at-requires c = record {
  there = target_there c.args.site.now (slice_get (plan_at c.args.site.now c.args.relay).actions c.in-Run.action) c.in-Some.input
      (sym c.target.ensures ∙ c.in-Some.is);
}
