use Rattle.std.proofs.Common.{subst, sym}
use Rattle.std.specs.Prelude.{Decides}
use Rattle.sy_site.specs.machine.Reach.{LeadsTo}
use Rattle.sy_checker.proofs.Reporting.{lead_decides}
use Rattle.sy_checker.proofs.surveying.leads_to.Goals as goal

pub returns : goal.returns
returns c =
    subst (λ b. Decides b (LeadsTo c.args.site.now c.args.class c.args.archive c.args.entry)) (sym c.is_some.ensures)
    (lead_decides c.args.site.now c.args.class c.args.archive c.args.entry c.in_ok-path.path c.in_ok-path.ensures)
