use Rattle.std.proofs.Common.{[], refl, sym, ◌∙◌}
use Rattle.std.proofs.lemmas.Bool.{false≢true}
use Rattle.sy_site.specs.machine.Findings.{IsUnmet}
use Rattle.sy_checker.specs.internal.Survey.{IsUnmetBy}
use Rattle.sy_site.specs.declared.finding.Kind.TheVariants as kind
use Rattle.sy_checker.proofs.Reporting.{push_reported}
use Rattle.sy_checker.proofs.surveying.push_unmet.Goals as goal

pub returns : goal.returns
returns c =
    let unmet : IsUnmet c.args.site.now c.args.class c.args.archive c.args.entry = record {
      named = c.requires.named;
      is_entry = c.requires.entry;
      leads_not = λ leads. false≢true (sym c.if-branch.false ∙ c.in_ok-leads_to.ensures.1 leads);
    } in
    push_reported c.args.site.now c.args.class c.args.entry (kind.Unmet c.args.archive)
    (IsUnmetBy c.args.site.now c.args.class c.args.entry c.args.archive) c.args.found.now.groups.items c.push_found.new.found.groups.items
    c.in_ok-push_found.ensures ([], record { protected = c.requires.protected; found = (refl, unmet) }) (λ i j p. (p.0, p.1))
