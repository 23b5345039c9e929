use Rattle.std.proofs.lemmas.List.Elements.{Contains-get_or}
use Rattle.sy_checker.specs.internal.Survey.{IsUnmetBy}
use Rattle.sy_checker.proofs.Reporting.{all_reported, more_reported}
use Rattle.sy_checker.proofs.surveying.push_archives.Goals as goal

pub push_unmet-requires : goal.push_unmet-requires
push_unmet-requires c = record {
  protected = c.requires.protected;
  flows = c.requires.flows;
  leads = c.requires.leads;
  entry = c.requires.entry;
  named = c.requires.named _ (Contains-get_or c.args.archives.now c.loop-archive.archive-index _ c.loop-archive-test.true);
}

pub loop-archive-preserved : goal.loop-archive-preserved
loop-archive-preserved c =
    more_reported c.args.site.now c.args.class (λ archive. IsUnmetBy c.args.site.now c.args.class c.args.entry archive) c.args.archives.now
    c.loop-archive.archive-index _ c.args.found.now.groups.items c.loop-archive.found.groups.items
    c.push_unmet.new.found.groups.items c.loop-archive-test.true c.loop-archive.invariant c.in_ok-push_unmet.ensures

pub returns : goal.returns
returns c =
    all_reported c.args.site.now c.args.class (λ archive. IsUnmetBy c.args.site.now c.args.class c.args.entry archive) c.args.archives.now
    c.loop-archive.archive-index c.args.found.now.groups.items c.loop-archive.found.groups.items c.loop-archive-test.false c.loop-archive.invariant
