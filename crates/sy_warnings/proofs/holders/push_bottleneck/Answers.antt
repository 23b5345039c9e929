use Rattle.std.proofs.Common.{subst, sym}
use Rattle.sy_warnings.specs.declared.holders.Holding.TheVariants as holding
use Rattle.sy_warnings.specs.internal.Holders.{Adds}
use Rattle.sy_warnings.proofs.Blocking.{none_added, one_added}
use Rattle.sy_warnings.proofs.holders.push_bottleneck.Goals as goal

pub returns-in_ok-push-in-Some : goal.returns-in_ok-push-in-Some
returns-in_ok-push-in-Some c =
    subst (Adds c.args.site.now c.args.relay c.args.action holding.Bottleneck c.args.found.now.items) (sym c.in_ok-push-in-Some.ensures.items)
    (one_added c.args.site.now c.args.relay c.args.action holding.Bottleneck c.args.found.now.items c.bottleneck.result c.bottleneck.ensures
    c.in-Some.ensures.some.1)

pub returns-in-None : goal.returns-in-None
returns-in-None c =
    none_added c.args.site.now c.args.relay c.args.action holding.Bottleneck c.args.found.now.items c.in-None.ensures.none
