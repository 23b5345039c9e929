use Rattle.sy_findings.proofs.Lineup.{GoesOn}
use Rattle.sy_findings.proofs.verdicts.tally.lines_of.Given as goal

abbrev pub invariant-loop-instance : goal.invariant-loop-instance
invariant-loop-instance l = GoesOn l.site l.instances l.instance-index l.text.items
