use Rattle.std.proofs.Common.{subst}
use Rattle.sy_site.specs.machine.Findings.{IsLoop}
use Rattle.sy_site.specs.declared.finding.Kind.TheVariants as kind
use Rattle.sy_checker.specs.internal.Loops.{HasNoRanks, way_of}
use Rattle.sy_checker.specs.internal.Survey.{IsNothing, Pushes, Reports}
use Rattle.sy_flows.proofs.FoundInputs.{on_ok}
use Rattle.sy_checker.proofs.Reporting.{push_reported}
use Rattle.sy_checker.proofs.surveying.push_looped.Goals as goal

pub returns-in-Loop-clause-reports : goal.returns-in-Loop-clause-reports
returns-in-Loop-clause-reports c =
    let site = c.args.site.now in
    let old = c.args.found.now.groups.items in
    let new = c.push_found.new.found.groups.items in
    let met : IsLoop site c.args.class (way_of c.in-Loop._way.items) c.in-Loop.end = subst (HasNoRanks site c.args.class) c.in-Loop.is c.requires.none in
    on_ok (Pushes c.args.class c.in-Loop.end kind.Loop old new) (Reports site c.args.class IsNothing old new)
    (λ sets_cells. push_reported site c.args.class c.in-Loop.end kind.Loop IsNothing old new sets_cells
    (way_of c.in-Loop._way.items, record { protected = c.requires.protected; found = met }) (λ i j p. absurd p))
    c.push_found.result c.push_found.ensures
