use Rattle.std.proofs.Common.{◌<◌, ℕ}
use Rattle.sy_survey.specs.Surveys as spec
use Rattle.sy_survey.proofs.survey.are_kept.Given as goal

abbrev pub invariant-loop-input : goal.invariant-loop-input
invariant-loop-input l = (input : ℕ) → input < l.input → spec.IsKept l.fleet l.selector input
