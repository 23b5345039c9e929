use Rattle.std.proofs.Common.{◌≡◌, ◌<◌, ◌≤◌, ℕ, get_or}
use Rattle.sy_survey.specs.declared.survey.Host.{Host}
use Rattle.sy_survey.specs.Surveys as spec
use Rattle.sy_survey.proofs.survey.survey.Given as goal

abbrev pub invariant-loop-host : goal.invariant-loop-host
invariant-loop-host g l = (l.status ≤ 4) × (l.status ≡ 0 → (k : ℕ) (d : Host) → k < l.host-index
    → spec.IsKeptHost g.F.Files.bytes_of l.tree.files.now l.wanted.selector.now (get_or l.wanted.hosts.now k d))
