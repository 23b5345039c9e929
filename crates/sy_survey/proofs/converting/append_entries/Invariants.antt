use Rattle.std.proofs.Common.{◌≡◌, ◌++◌, drop}
use Rattle.std.specs.Prelude.{flat_map}
use Rattle.sy_survey.specs.Converting.{entry_line}
use Rattle.sy_survey.proofs.converting.append_entries.Given as goal

abbrev pub invariant-loop-input : goal.invariant-loop-input
invariant-loop-input l = l.text.items ++ flat_map entry_line (drop l.input-index l.inputs) ≡ l.initial.text.items ++ flat_map entry_line l.inputs
