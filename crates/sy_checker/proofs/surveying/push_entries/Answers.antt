use Rattle.std.proofs.lemmas.List.Elements.{Contains-get_or}
use Rattle.sy_checker.specs.internal.Survey.{Among, IsUnmetBy}
use Rattle.sy_checker.proofs.Reporting.{all_reported, more_reported}
use Rattle.sy_checker.proofs.surveying.push_entries.Goals as goal

pub push_archives-requires : goal.push_archives-requires
push_archives-requires c = record {
  protected = c.requires.protected;
  flows = c.requires.flows;
  leads = c.requires.leads;
  entry = c.requires.entries _ (Contains-get_or c.args.entries.now c.loop-entry.entry-index _ c.loop-entry-test.true);
  named = c.requires.named;
}

pub loop-entry-preserved : goal.loop-entry-preserved
loop-entry-preserved c =
    more_reported c.args.site.now c.args.class
    (λ entry i j. Among c.args.archives.now (λ archive. IsUnmetBy c.args.site.now c.args.class entry archive i j)) c.args.entries.now
    c.loop-entry.entry-index _ c.args.found.now.groups.items c.loop-entry.found.groups.items c.push_archives.new.found.groups.items
    c.loop-entry-test.true c.loop-entry.invariant c.in_ok-push_archives.ensures

pub returns : goal.returns
returns c =
    all_reported c.args.site.now c.args.class
    (λ entry i j. Among c.args.archives.now (λ archive. IsUnmetBy c.args.site.now c.args.class entry archive i j)) c.args.entries.now
    c.loop-entry.entry-index c.args.found.now.groups.items c.loop-entry.found.groups.items c.loop-entry-test.false c.loop-entry.invariant
