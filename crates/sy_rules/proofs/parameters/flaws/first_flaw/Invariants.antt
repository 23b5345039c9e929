use Rattle.std.proofs.Common.{◌≡◌, ◌++◌, take, drop}
use Rattle.sy_rules.specs.Faults.{first}
use Rattle.sy_rules.specs.parameters.Values.{faults, faults_of_given, missing}
use Rattle.sy_rules.specs.parameters.Rows.{rows}
use Rattle.sy_rules.proofs.parameters.flaws.first_flaw.Given as goal

-- what is left to judge has the same first fault
abbrev pub invariant-loop-at : goal.invariant-loop-at
invariant-loop-at l =
    first (faults_of_given (rows l.kind) (take l.at l.params) (drop l.at l.params) ++ missing (rows l.kind) l.params) ≡ first (faults l.kind l.params)
