use Rattle.sy_checker.proofs.Complete.{without_findings}
use Rattle.sy_checker.proofs.laws.sites_without_a_finding_are_sound.Goals as goal

pub returns : goal.returns
returns c = without_findings
