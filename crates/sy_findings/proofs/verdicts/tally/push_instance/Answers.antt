use Rattle.sy_findings.proofs.verdicts.tally.push_instance.Goals as goal

pub returns : goal.returns
returns c = (c.as_slice-2.result.now, c.in_ok-push_line.ensures)
