use Rattle.sy_findings.proofs.Lineup.{line_with_words}
use Rattle.sy_findings.proofs.verdicts.explained_tally.push_explained.Goals as goal

pub returns : goal.returns
returns c = line_with_words c.args.site.now c.args.instance.now _ _ _ _ c.in_ok-push_instance.ensures c.in_ok-extend_from_slice.ensures.items
