use Rattle.sy_findings.proofs.Lineup.{GoesOnInWords}
use Rattle.sy_findings.proofs.verdicts.explained_tally.lines_of.Given as goal

abbrev pub invariant-loop-instance : goal.invariant-loop-instance
invariant-loop-instance l = GoesOnInWords l.site l.instances l.instance-index l.text.items
