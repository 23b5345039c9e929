use Rattle.std.proofs.Common.{◌≡◌, ◌++◌, drop}
use Rattle.sy_survey.specs.Together as spec
use Rattle.sy_survey.proofs.whole.append_all.Given as goal

abbrev pub invariant-loop-source : goal.invariant-loop-source
invariant-loop-source l = l.text.items ++ spec.all_lines (drop l.source-index l.sources) ≡ l.initial.text.items ++ spec.all_lines l.sources
