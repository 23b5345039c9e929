use Rattle.sy_board.specs.relay.Spares.{Scope}
use Rattle.sy_site.specs.machine.Findings.{HoldsAt}
use Rattle.sy_site.specs.machine.Reach.{Reach}
use Rattle.sy_site.specs.Sites.{archives}
use Rattle.sy_site.specs.Finding.{kind_of}
use Rattle.sy_checker.specs.internal.Survey.{Among, IsNothing, IsUnmetBy}
use Rattle.sy_checker.proofs.Reporting.{all_of, both_reported}
use Rattle.sy_checker.proofs.surveying.push_all.Goals as goal

pub returns-clause-reports : goal.returns-clause-reports
returns-clause-reports c =
    let site = c.args.site.now in
    both_reported site c.args.class (λ i j. Reach site c.args.class Scope.Firm i × HoldsAt site c.args.class i (kind_of j))
    (λ i j. Among site.entries (λ entry. Among (archives site c.args.class) (λ archive. IsUnmetBy site c.args.class entry archive i j))) IsNothing
    c.args.found.now.groups.items c.push_reached.new.found.groups.items c.push_all_unmet.new.found.groups.items c.in_ok-push_reached.ensures.reports
    c.in_ok-push_all_unmet.ensures (λ i j p. absurd p)

pub returns-clause-reported : goal.returns-clause-reported
returns-clause-reported c =
    all_of c.args.site.now c.args.class c.args.found.now.groups.items c.push_reached.new.found.groups.items c.push_all_unmet.new.found.groups.items
    c.in_ok-push_reached.ensures.reports c.in_ok-push_reached.ensures.ranked c.in_ok-push_all_unmet.ensures
