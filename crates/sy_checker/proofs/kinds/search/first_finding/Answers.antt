use Rattle.std.proofs.Common.{subst, sym}
use Rattle.std.specs.Prelude.{Contains}
use Rattle.sy_board.specs.relay.Spares.{Scope}
use Rattle.sy_flows.proofs.Gone.{reach_spread}
use Rattle.sy_checker.proofs.kinds.search.first_finding.Goals as goal

pub returns-in-None : goal.returns-in-None
returns-in-None c = λ input reach.
    c.in-None.ensures.none input
    (subst (λ l. Contains l input) (sym c.as_slice.ensures.value)
    ((reach_spread c.args.site.now c.args.class Scope.Firm c.args.found.now.inputs.items c.args.found.now.origins.items c.requires.spread input).1 reach))
